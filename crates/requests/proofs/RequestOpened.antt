-- What a pack was opened as is, after any request but Format, still what opening would give; and a request that succeeds was made of a consistent image.
use Prim.Native.Nat.{ℕ, ◌+◌}
use mathlib.Core.Path.{◌≡◌, refl, sym, ap, ◌∙◌}
use mathlib.Core.Logic.{◌⊎◌, inl, inr}
use mathlib.Core.Bool.{not}
use mathlib.Core.List.{List, [], ◌∷◌}
use native.Mathlib.Omega.{arith}
use native.Mathlib.Decide.{ℕ_discrete}
use borrow.Author.Tests.{not-false}
use Rattle.answers.specs.Refusals.{Row, row}
use Rattle.answers.proofs.Refusals.{none_given}
use Rattle.pack.specs.declared.Key.{Key}
use Rattle.pack.specs.Geometry.{geometry_of}
use Rattle.pack.specs.Consistent.{Consistent}
use Rattle.consistency.specs.ConsistentTest.{consistent, opened_of}
use Rattle.consistency.proofs.ConsistentTestIff.{consistent_iff}
use Rattle.asking.specs.Outcome.{Outcome, settled}
use Rattle.asking.specs.AskedStage.{file_rows}
use Rattle.asking.proofs.Outcome.{code_is}
use Rattle.creation.specs.CreatingRows.{creating_rows}
use Rattle.creation.specs.AllocRows.{alloc_rows}
use Rattle.creation.specs.Alloc.{alloc}
use Rattle.creation.specs.Openo.{openo}
use Rattle.opening.specs.declared.Opening.{Opening}
use Rattle.opening.specs.OpenRows.{open_rows}
use Rattle.opening.specs.Open.{opened}
use Rattle.opening.specs.CloseRows.{close_rows}
use Rattle.opening.specs.Close.{close}
use Rattle.directory.specs.DeletRows.{delet_rows}
use Rattle.directory.specs.Delet.{delet}
use Rattle.directory.specs.KeepRows.{keep_rows}
use Rattle.directory.specs.Keep.{keep}
use Rattle.directory.specs.RenamRows.{renam_rows}
use Rattle.directory.specs.Renam.{new_key, renam}
use Rattle.finishing.specs.FinishRows.{finish_rows}
use Rattle.finishing.specs.Finish.{finish}
use Rattle.transfer.specs.BlockRows.{block_out_rows}
use Rattle.transfer.specs.Block.{block_out}
use Rattle.appending.specs.AppndRows.{appnd_rows}
use Rattle.appending.specs.Appnd.{appnd}
use Rattle.adding.specs.LinkedAddRows.{linked_add_rows}
use Rattle.adding.specs.LinkedAdd.{linked_add}
use Rattle.stream.specs.BytesWriting.{bytes_written}
use Rattle.lines.specs.LineWriting.{line_write, line_end}
use Rattle.lines.proofs.LineReadingStage.{line_read_image}
use Rattle.binary.specs.BinaryWriting.{binary_write}
use Rattle.binary.proofs.BinaryReadingStage.{binary_read_image}
use Rattle.requests.specs.Request.{Request, outcome, Names, NotFormat, FORMAT, ALLOC, OPENO, OPEN, CLOSE, DELET, RENAM, APPND, LOOK, KEEP, BLOCK-INPUT, BLOCK-OUTPUT, LINKED-READ, LINKED-ADD}
use Rattle.requests.specs.Request.{LINE-READ, LINE-WRITE, LINE-END, BINARY-READ, BINARY-WRITE, FINISH, OWNER}
use Rattle.requests.proofs.RequestAsking.{look_image, owner_image, block_in_image, linked_read_image}
use Rattle.requests.proofs.RequestConsistent.{stays_consistent}
use Rattle.requests.proofs.RequestRefused.{refusal_leaves}
use Rattle.requests.proofs.RequestUntouched.{who_is_not_named}

-- rows that begin with 40 pass only of a consistent image
made_of : (img : List ℕ) (rows : List Row) (buffer : List ℕ) (effect : Outcome)
    → (settled (row (not (consistent img)) 0o40 ∷ rows) img buffer effect).code ≡ 0 → Consistent img
made_of img rows buffer effect success =
    let passed = sym (code_is (row (not (consistent img)) 0o40 ∷ rows) img buffer effect) ∙ success in
    (consistent_iff img).0 (not-false _ (none_given _ 0o40 rows (λ zero. omega (arith, zero)) passed).0)

module _ (img : List ℕ) where
  alloc_right : (key : Key) (caller protect segments : ℕ) → (alloc img key caller protect segments).code ≡ 0 → Consistent img
  unfolding alloc alloc_rows creating_rows
  alloc_right key caller protect segments = made_of img _ [] _

  openo_right : (key : Key) (caller protect : ℕ) → (openo img key caller protect).code ≡ 0 → Consistent img
  unfolding openo creating_rows
  openo_right key caller protect = made_of img _ [] _

  open_right : (mode : Opening) (key : Key) (caller : ℕ) → (opened mode img key caller).code ≡ 0 → Consistent img
  unfolding opened open_rows file_rows
  open_right mode key caller = made_of img _ [] _

  close_right : (key : Key) (mode : ℕ) → (close img key mode).code ≡ 0 → Consistent img
  unfolding close close_rows file_rows
  close_right key mode = made_of img _ [] _

  delet_right : (key : Key) (caller : ℕ) → (delet img key caller).code ≡ 0 → Consistent img
  unfolding delet delet_rows file_rows
  delet_right key caller = made_of img _ [] _

  renam_right : (old new : Key) (protect caller : ℕ) → (renam img old new protect caller).code ≡ 0 → Consistent img
  unfolding renam renam_rows
  renam_right old new protect caller = made_of img _ [] _

  appnd_right : (first second : Key) (caller : ℕ) → (appnd img first second caller).code ≡ 0 → Consistent img
  unfolding appnd appnd_rows
  appnd_right first second caller = made_of img _ [] _

  keep_right : (key : Key) (caller : ℕ) → (keep img key caller).code ≡ 0 → Consistent img
  unfolding keep keep_rows file_rows
  keep_right key caller = made_of img _ [] _

  block_out_right : (key : Key) (caller place : ℕ) (buffer : List ℕ) → (block_out img key caller place buffer).code ≡ 0 → Consistent img
  unfolding block_out block_out_rows file_rows
  block_out_right key caller place buffer = made_of img _ buffer _

  linked_add_right : (key : Key) (caller : ℕ) (payload : List ℕ) → (linked_add img key caller payload).code ≡ 0 → Consistent img
  unfolding linked_add linked_add_rows file_rows
  linked_add_right key caller payload = made_of img _ payload _

  line_write_right : (key : Key) (caller mode : ℕ) (text gather : List ℕ) (filled : ℕ) → (line_write img key caller mode text gather filled).code ≡ 0 → Consistent img
  unfolding line_write bytes_written linked_add_rows file_rows
  line_write_right key caller mode text gather filled = made_of img _ gather _

  line_end_right : (key : Key) (caller : ℕ) (gather : List ℕ) (filled : ℕ) → (line_end img key caller gather filled).code ≡ 0 → Consistent img
  unfolding line_end bytes_written linked_add_rows file_rows
  line_end_right key caller gather filled = made_of img _ gather _

  binary_write_right : (key : Key) (caller : ℕ) (content gather : List ℕ) (filled : ℕ) → (binary_write img key caller content gather filled).code ≡ 0 → Consistent img
  unfolding binary_write bytes_written linked_add_rows file_rows
  binary_write_right key caller content gather filled = made_of img _ gather _

  finish_right : (caller : ℕ) → (finish img caller).code ≡ 0 → Consistent img
  unfolding finish finish_rows
  finish_right caller = made_of img _ [] _

-- a key of another UIC
abbrev elsewhere : ℕ → Key
elsewhere uic = record { name1 = 0; name2 = 0; extension = 0; uic = uic + 1 }

above : (uic : ℕ) (key : Key) → elsewhere uic ≡ key → uic + 1 ≡ key.uic
above uic key is = ap (λ (k : Key). k.uic) is

apart : (key : Key) → elsewhere key.uic ≡ key → ⊥
apart key is = omega (arith, above key.uic key is)

opened_same : {img img' : List ℕ} → Consistent img → Consistent img' → geometry_of img' ≡ geometry_of img → opened_of img' ≡ opened_of img
unfolding opened_of
opened_same {img} {img'} right right' measures = rw ((consistent_iff img).1 right, (consistent_iff img').1 right', measures)

-- a refusal changes nothing; what succeeds leaves a consistent image consistent, and, to a file that it does not name, the measures
opened_kept : (r : Request) {img : List ℕ} (who : Key) → (Names r who → ⊥) → ((outcome r img).code ≡ 0 → Consistent img)
    → opened_of (outcome r img).image ≡ opened_of img
opened_kept r {img} who other right = by (ℕ_discrete (outcome r img).code 0)
  where
    by : Dec ((outcome r img).code ≡ 0) → opened_of (outcome r img).image ≡ opened_of img
    by (yes success) = opened_same (right success) (stays_consistent r (right success)) (who_is_not_named r (right success) who other).measures
    by (no never) = ap opened_of (refusal_leaves r img never).same_image

pub opened_stays : (r : Request) → NotFormat r → (img : List ℕ) → opened_of (outcome r img).image ≡ opened_of img
opened_stays (FORMAT form blocks contents uics) other img = absurd (other form blocks contents uics refl)
opened_stays (ALLOC key caller protect segments) other img =
    opened_kept (ALLOC key caller protect segments) (elsewhere key.uic) (apart key) (alloc_right img key caller protect segments)
opened_stays (OPENO key caller protect) other img = opened_kept (OPENO key caller protect) (elsewhere key.uic) (apart key) (openo_right img key caller protect)
opened_stays (OPEN mode key caller) other img = opened_kept (OPEN mode key caller) (elsewhere key.uic) (apart key) (open_right img mode key caller)
opened_stays (CLOSE key mode) other img = opened_kept (CLOSE key mode) (elsewhere key.uic) (apart key) (close_right img key mode)
opened_stays (DELET key caller) other img = opened_kept (DELET key caller) (elsewhere key.uic) (apart key) (delet_right img key caller)
opened_stays (RENAM old name1 name2 extension protect caller) other img =
    opened_kept (RENAM old name1 name2 extension protect caller) (elsewhere old.uic) neither (renam_right img old (new_key old name1 name2 extension) protect caller)
  where
    neither : (elsewhere old.uic ≡ old) ⊎ (elsewhere old.uic ≡ new_key old name1 name2 extension) → ⊥
    neither (inl is) = apart old is
    neither (inr is) = apart (new_key old name1 name2 extension) is
opened_stays (APPND first second caller) other img =
    opened_kept (APPND first second caller) (elsewhere (first.uic + second.uic)) neither (appnd_right img first second caller)
  where
    neither : (elsewhere (first.uic + second.uic) ≡ first) ⊎ (elsewhere (first.uic + second.uic) ≡ second) → ⊥
    neither (inl is) = omega (arith, above _ first is)
    neither (inr is) = omega (arith, above _ second is)
opened_stays (LOOK key) other img = ap opened_of (look_image img key)
opened_stays (KEEP key caller) other img = opened_kept (KEEP key caller) (elsewhere key.uic) (apart key) (keep_right img key caller)
opened_stays (BLOCK-INPUT key caller place buffer) other img = ap opened_of (block_in_image img key caller place buffer)
opened_stays (BLOCK-OUTPUT key caller place buffer) other img =
    opened_kept (BLOCK-OUTPUT key caller place buffer) (elsewhere key.uic) (apart key) (block_out_right img key caller place buffer)
opened_stays (LINKED-READ key caller place buffer) other img = ap opened_of (linked_read_image img key caller place buffer)
opened_stays (LINKED-ADD key caller payload) other img = opened_kept (LINKED-ADD key caller payload) (elsewhere key.uic) (apart key) (linked_add_right img key caller payload)
opened_stays (LINE-READ key caller mode position buffer) other img = ap opened_of (line_read_image img key caller mode position buffer)
opened_stays (LINE-WRITE key caller mode text gather filled) other img =
    opened_kept (LINE-WRITE key caller mode text gather filled) (elsewhere key.uic) (apart key) (line_write_right img key caller mode text gather filled)
opened_stays (LINE-END key caller gather filled) other img = opened_kept (LINE-END key caller gather filled) (elsewhere key.uic) (apart key) (line_end_right img key caller gather filled)
opened_stays (BINARY-READ key caller mode position to_come sum buffer) other img = ap opened_of (binary_read_image img key caller mode position to_come sum buffer)
opened_stays (BINARY-WRITE key caller content gather filled) other img =
    opened_kept (BINARY-WRITE key caller content gather filled) (elsewhere key.uic) (apart key) (binary_write_right img key caller content gather filled)
opened_stays (FINISH caller) other img = opened_kept (FINISH caller) (elsewhere caller) (λ is. omega (arith, is)) (finish_right img caller)
opened_stays (OWNER block) other img = ap opened_of (owner_image img block)
