-- OPENI, OPENU and OPENE: what each changes of the entry; a refusal changes nothing; the image stays consistent, other files untouched, each block its owner's, and none is taken or given up.
use Prim.Native.Nat.{ℕ, ◌+◌}
use mathlib.Core.Path.{◌≡◌, refl, ◌∙◌}
use mathlib.Core.List.{List, []}
use mathlib.Core.Logic.{inr}
use native.Mathlib.Omega.{arith}
use borrow.Author.Tests.{eqb-false}
use Rattle.answers.specs.Refusals.{first_of}
use Rattle.pack.specs.declared.Entry.{Entry}
use Rattle.pack.specs.declared.Geometry.{Geometry}
use Rattle.pack.specs.declared.Key.{Key}
use Rattle.pack.specs.Geometry.{geometry_of, entry_at}
use Rattle.pack.specs.Entry.{entry_of}
use Rattle.pack.specs.EntryWords.{set_entry_word}
use Rattle.pack.specs.Consistent.{held, Consistent}
use Rattle.pack.specs.Owner.{owner_of}
use Rattle.pack.specs.Untouched.{Untouched}
use Rattle.asking.specs.Asked.{entry_no, file_of}
use Rattle.asking.specs.Outcome.{Unchanged}
use Rattle.asking.proofs.Outcome.{refusal_keeps, image_by}
use Rattle.asking.proofs.AskedCleared.{Cleared, FileCleared, file_used}
use Rattle.frame.specs.Framed.{ChangesOnly, Only}
use Rattle.frame.proofs.ChangesWritten.{changes_nothing, changes_word}
use Rattle.frame.proofs.Described.{used_description}
use Rattle.opening.specs.declared.Opening.{Opening}
use Rattle.opening.specs.declared.Opening.TheVariants.{Input, Update, Extension}
use Rattle.opening.specs.OpenRows.{open_rows, open_word, open_value}
use Rattle.opening.specs.Open.{with_opens, opened_entry, opened}
use Rattle.opening.proofs.OpenRows.{Openable}
use Rattle.opening.proofs.OpenStage.{open_cleared}
use Rattle.opening.proofs.OpenWords.{Rules, OpensSet, RightOpens, writer_set, readers_set, request_file, request_consistent, request_untouched, request_owner, request_held}

-- the word that is written gives the writer and the readers of `opened_entry`
opened_set : (mode : Opening) {img : List ℕ} {key : Key} {g : Geometry} {e : ℕ} → Cleared img key g e
    → OpensSet img (set_entry_word img g e (open_word mode) (open_value mode (entry_of img g e))) g e
    (opened_entry mode (entry_of img g e)).writer (opened_entry mode (entry_of img g e)).readers
opened_set Input c = readers_set c _
opened_set Update c = writer_set c 1
opened_set Extension c = writer_set c 3

-- which differs in nothing else
opened_only : (mode : Opening) (x : Entry) → with_opens x (opened_entry mode x).writer (opened_entry mode x).readers ≡ opened_entry mode x
opened_only Input x = refl
opened_only Update x = refl
opened_only Extension x = refl

-- the rules of opens hold afterwards: a reader more, a writer of a contiguous file, a writer of a linked one
opened_rules : (mode : Opening) {img : List ℕ} {key : Key} → FileCleared img key → Openable mode (file_of img key)
    → Rules (file_of img key).kind (opened_entry mode (file_of img key)).writer (opened_entry mode (file_of img key)).readers
opened_rules Input {img} {key} f o =
    let d = used_description img (geometry_of img) (entry_no img key) (file_of img key) (file_used f) in
    record { contiguous = d.contiguous; linked = d.linked; opens = omega (arith, o.few) }
opened_rules Update f o =
    record { contiguous = λ is. inr refl; linked = λ is. absurd (eqb-false _ 2 o.updatable is); opens = omega (arith, o.few) }
opened_rules Extension f o =
    record { contiguous = λ is. absurd (eqb-false _ 1 o.extensible is); linked = λ is. inr (inr refl); opens = omega (arith, o.few) }

module _ (mode : Opening) (img : List ℕ) (key : Key) (caller : ℕ) where
  sets : first_of (open_rows mode img key caller) ≡ 0
      → RightOpens img (set_entry_word img (geometry_of img) (entry_no img key) (open_word mode) (open_value mode (file_of img key))) key
      (opened_entry mode (file_of img key)).writer (opened_entry mode (file_of img key)).readers
  unfolding file_of
  sets none =
      let c = open_cleared mode img key caller none in
      record { file = c.0; set = opened_set mode c.0; rules = opened_rules mode c.0 c.1 }

  -- "OPENI .. adds a reader. OPENU .. writer 1. OPENE .. writer 3.", and nothing else of the entry changes
  pub open_entry : (opened mode img key caller).code ≡ 0 → file_of (opened mode img key caller).image key ≡ opened_entry mode (file_of img key)
  unfolding opened
  open_entry success = request_file (open_rows mode img key caller) sets success ∙ opened_only mode (file_of img key)

  pub open_refused : ((opened mode img key caller).code ≡ 0 → ⊥) → Unchanged (opened mode img key caller) [] img []
  unfolding opened
  open_refused never = refusal_keeps (open_rows mode img key caller) img [] _ never

  pub open_consistent : Consistent img → Consistent (opened mode img key caller).image
  unfolding opened
  open_consistent = request_consistent (open_rows mode img key caller) sets

  pub open_untouched : (key' : Key) → (key' ≡ key → ⊥) → Untouched key' img (opened mode img key caller).image
  unfolding opened
  open_untouched = request_untouched (open_rows mode img key caller) sets

  pub open_owner : (b : ℕ) → owner_of (opened mode img key caller).image b ≡ owner_of img b
  unfolding opened
  open_owner = request_owner (open_rows mode img key caller) sets

  pub open_held : Consistent img → (b : ℕ) → held (opened mode img key caller).image b ≡ held img b
  unfolding opened
  open_held right = request_held (open_rows mode img key caller) sets

  -- no other word changes
  pub open_changes : ChangesOnly (Only (entry_at (geometry_of img) (entry_no img key) + open_word mode)) img (opened mode img key caller).image
  unfolding opened
  open_changes = image_by (open_rows mode img key caller) img [] _ (ChangesOnly _ img) changes_nothing (λ clear. changes_word img _ _ refl)
