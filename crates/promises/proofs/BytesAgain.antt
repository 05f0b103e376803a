-- Bytes that were added to a file are ended, and the file closed and opened for input: every request has code 0, and the file can be read, the bytes behind
-- what it held before.
use Prim.Native.Nat.{ℕ, ◌+◌, ◌*◌, ◌≤◌, ◌<◌}
use mathlib.Core.Path.{◌≡◌, refl, sym, ap, subst, ◌∙◌}
use mathlib.Core.Logic.{◌⊎◌, ⊎_elim}
use mathlib.Core.Bool.{false}
use mathlib.Core.List.{List, [], ◌++◌, append_assoc, append-nil}
use native.Mathlib.Omega.{arith}
use lib.Dec.{eqb, ltb}
use lib.ListN.{length, take, length-take, length-append}
use borrow.Author.Tests.{lt-ltb, not-false}
use Rattle.pack.specs.declared.Geometry.{Geometry}
use Rattle.pack.specs.declared.Key.{Key}
use Rattle.pack.specs.Geometry.{geometry_of, payload_bytes}
use Rattle.pack.specs.File.{one}
use Rattle.pack.specs.Entry.{entry_of}
use Rattle.asking.specs.declared.Right.TheVariants.{Write}
use Rattle.asking.specs.Asked.{entry_no, file_of}
use Rattle.asking.proofs.Rights.{may_iff, may_reads}
use Rattle.asking.proofs.AskedCleared.{asked_cleared, file_used}
use Rattle.opening.specs.declared.Opening.TheVariants.{Input}
use Rattle.opening.specs.Open.{opened}
use Rattle.opening.specs.Close.{close}
use Rattle.adding.proofs.LinkedAddStage.{linked_add_clear}
use Rattle.stream.proofs.SpotAsked.{asked_linked}
use Rattle.lines.specs.LineWriting.{nuls_for, line_end}
use Rattle.promises.specs.BytesAgain.{payloads_in, reopened}
use Rattle.promises.proofs.CodesTests.{equal_numbers, either}
use Rattle.promises.proofs.BytesAgainLaid.{Clear, BytesAdded, clear_behind, laid_compose, laid_measures, laid_payloads, laid_writer}
use Rattle.promises.proofs.BytesAgainCalls.{end_clear, end_laid}
use Rattle.promises.proofs.BytesAgainHeld.{Held, held_length, close_held, held_closed, closed_opens, open_held, held_opened, held_readers}

-- a file that can be read, with these payloads
pub record Readable (img : List ℕ) (key : Key) (caller : ℕ) (payloads : List ℕ) : Type 0 where
  pub measures : Geometry
  pub entry : ℕ
  pub held : Held img key measures entry caller payloads
  pub reader : 0 < (entry_of img measures entry).readers

-- a file that can be added to
record Added (img : List ℕ) (key : Key) (caller : ℕ) : Type 0 where
  held : Held img key (geometry_of img) (entry_no img key) caller (payloads_in img key)
  least : 2 ≤ (file_of img key).writer
  most : (file_of img key).writer ≤ 3
  few : (file_of img key).readers < 62

clear_added : {key : Key} {caller : ℕ} {g : Geometry} {img gather bytes : List ℕ} {filled : ℕ} → Clear key caller g img gather filled bytes → Added img key caller
unfolding file_of
clear_added {key} {caller} {g} {img} c =
    let r = (linked_add_clear img key caller false _ c.rows).0 in
    let cleared = asked_cleared r.file in
    let writer : ((file_of img key).writer ≡ 2) ⊎ ((file_of img key).writer ≡ 3) =
    (either (eqb (file_of img key).writer 2) (eqb (file_of img key).writer 3) (equal_numbers _ 2) (equal_numbers _ 3)).0 (not-false _ r.access.opened) in
    let least : 2 ≤ (file_of img key).writer = ⊎_elim (λ is. omega (arith, is)) (λ is. omega (arith, is)) writer in
    let counted : one (ltb 0 (file_of img key).writer) ≡ 1 = ap one (lt-ltb 0 (file_of img key).writer (omega (arith, least))) in
    record {
      held =
          record {
            file = cleared;
            readable = may_reads caller _ _ Write ((may_iff Write caller _ _).0 r.access.right_given);
            linked = asked_linked r.file r.access.kind;
            bytes = refl;
          };
      least = least;
      most = ⊎_elim (λ is. omega (arith, is)) (λ is. omega (arith, is)) writer;
      few = omega (arith, (file_used cleared).opens, counted);
    }

-- its length in bytes
added_length : {img : List ℕ} {key : Key} {caller : ℕ} → Added img key caller → length (payloads_in img key) ≡ (file_of img key).length * payload_bytes (geometry_of img)
unfolding file_of
added_length a = held_length a.held

-- CLOSE of the mode that it is open with, then OPENI
module _ {img : List ℕ} {key : Key} {caller : ℕ} (a : Added img key caller) where
  abbrev mode : ℕ
  mode = (file_of img key).writer

  added_close : (close img key mode).code ≡ 0
  added_close = close_held a.held mode refl a.least a.most

  shut : ((entry_of (close img key mode).image (geometry_of img) (entry_no img key)).writer ≡ 0)
      × ((entry_of (close img key mode).image (geometry_of img) (entry_no img key)).readers < 62)
  unfolding file_of
  shut =
      let opens = closed_opens a.held mode refl a.least a.most in
      (opens.0, omega (arith, opens.1, a.few))

  closed_held : Held (close img key mode).image key (geometry_of img) (entry_no img key) caller (payloads_in img key)
  closed_held = held_closed a.held mode refl a.least a.most

  added_open : (opened Input (close img key mode).image key caller).code ≡ 0
  added_open = open_held closed_held shut.0 shut.1

  added_readable : Readable (reopened img key mode caller) key caller (payloads_in img key)
  added_readable =
      record {
        measures = geometry_of img;
        entry = entry_no img key;
        held = held_opened closed_held shut.0 shut.1;
        reader = omega (arith, held_readers closed_held shut.0 shut.1);
      }

-- where nothing spoke against the beginning, bytes were added to a buffer that was filled so far, and the ending call has code 0
module _ {key : Key} {caller : ℕ} {img gather begun bytes img' gather' : List ℕ} {filled filled' : ℕ}
    (start : Clear key caller (geometry_of img) img gather filled begun)
    (added : BytesAdded key caller (geometry_of img) img gather filled bytes img' gather' filled') (ended : (line_end img' key caller gather' filled').code ≡ 0) where
  abbrev after : List ℕ
  after = (line_end img' key caller gather' filled').image

  abbrev nuls : List ℕ
  nuls = nuls_for img filled'

  measured : geometry_of img' ≡ geometry_of img
  measured = laid_measures added refl

  all_added : BytesAdded key caller (geometry_of img) img gather filled (bytes ++ nuls) after (line_end img' key caller gather' filled').buffer 0
  all_added = laid_compose bytes nuls added (end_laid measured ended)

  left : Added after key caller
  left =
      let ending : Clear key caller (geometry_of img) img' gather' filled' nuls = rw (← measured) (end_clear img' key caller gather' filled' ended) in
      clear_added (clear_behind nuls [] (end_laid measured ended)
      (subst (Clear key caller (geometry_of img) img' gather' filled') (sym (append-nil nuls)) ending))

  -- the payloads of the file: those before, what was in the buffer, the bytes, and the NULs that fill the last block
  pub ended_payloads : payloads_in after key ≡ payloads_in img key ++ (take filled gather ++ (bytes ++ nuls))
  ended_payloads = sym (append-nil (payloads_in after key)) ∙ laid_payloads all_added refl start.room start.whole

  -- where the bytes begin: behind what the file held, and what was in the buffer
  pub begun_length : length (payloads_in img key ++ take filled gather) ≡ (file_of img key).length * payload_bytes (geometry_of img) + filled
  begun_length =
      omega (
        arith,
        length-append (payloads_in img key) (take filled gather),
        length-take filled gather,
        added_length (clear_added start),
        start.room,
        start.whole,
      )

  -- the file is open as it was before: CLOSE is told that mode
  same_mode : (file_of after key).writer ≡ (file_of img key).writer
  same_mode = laid_writer all_added refl

  pub ended_close : (close after key (file_of img key).writer).code ≡ 0
  ended_close = rw (← same_mode) (added_close left)

  pub ended_open : (opened Input (close after key (file_of img key).writer).image key caller).code ≡ 0
  ended_open = rw (← same_mode) (added_open left)

  pub ended_readable : Readable (reopened after key (file_of img key).writer caller) key caller ((payloads_in img key ++ take filled gather) ++ (bytes ++ nuls))
  ended_readable =
      rw (append_assoc (payloads_in img key) (take filled gather) (bytes ++ nuls), ← ended_payloads, ← same_mode) (added_readable left)
