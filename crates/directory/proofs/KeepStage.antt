-- KEEP: its rows stand in the table's order, what the code answers at each of its returns, and what bit 7 does to a protect code.
use Prim.Native.Nat.{ℕ, ◌+◌, ◌/◌, ◌%◌, ◌≤◌, ◌<◌}
use mathlib.Core.Path.{◌≡◌, refl, sym, ap, subst, ◌∙◌}
use mathlib.Core.Bool.{true, false, not}
use mathlib.Core.List.{List, [], ◌∷◌}
use native.Mathlib.Omega.{arith}
use native.Mathlib.Decide.{ℕ_discrete}
use lib.Dec.{eqb}
use borrow.Author.Tests.{eq-eqb, ne_eqb}
use Rattle.answers.specs.Refusals.{Row, row, first_of, table_order, in_order}
use Rattle.answers.proofs.Refusals.{refuse, pass, clear}
use Rattle.pack.specs.declared.Geometry.{Geometry}
use Rattle.pack.specs.declared.Entry.{Entry}
use Rattle.pack.specs.declared.Key.{Key}
use Rattle.pack.specs.Geometry.{slots}
use Rattle.pack.specs.GeometrySized.{Sized}
use Rattle.asking.specs.AskedStage.{Asked}
use Rattle.asking.specs.AskedStage.{File, Refused}
use Rattle.asking.specs.AskedStage.{file_rows, asked_of, stage_of}
use Rattle.asking.specs.Asked.{file_of}
use Rattle.pack.specs.EntryWords.{set_entry_word}
use Rattle.asking.proofs.AskedStage.{stage_clear, stage_refused, stage_stopped, stage_passed, Given, stage_is_file, writing_refused, writing_done}
use Rattle.directory.specs.KeepRows.{keep_rows}
use Rattle.directory.specs.Keep.{kept_code, keep}
use Rattle.asking.proofs.AskedCleared.{FileCleared, asked_cleared, given_cleared}

pub keep_ordered : (img : List ℕ) (key : Key) (caller : ℕ) → in_order table_order 0 (keep_rows img key caller) ≡ true
unfolding keep_rows file_rows
keep_ordered img key caller = refl

-- bit 7 of a protect code, set by a sum where it is clear
pub kept_clear : (protect : ℕ) → (protect / 128) % 2 ≡ 0 → protect + 128 ≡ kept_code protect
unfolding kept_code
kept_clear protect is = rw (eq-eqb ((protect / 128) % 2) 0 is)

pub kept_set : (protect : ℕ) → ((protect / 128) % 2 ≡ 0 → ⊥) → protect ≡ kept_code protect
unfolding kept_code
kept_set protect never = rw (ne_eqb ((protect / 128) % 2) 0 never)

pub kept_small : (protect : ℕ) → protect ≤ 255 → kept_code protect ≤ 255
kept_small protect small =
    elim (ℕ_discrete ((protect / 128) % 2) 0) [
      | yes is ↦ omega (arith, small, is, kept_clear protect is)
      | no never ↦ omega (arith, small, kept_set protect never)
    ]

pub kept_again : (protect : ℕ) → kept_code (kept_code protect) ≡ kept_code protect
kept_again protect =
    elim (ℕ_discrete ((protect / 128) % 2) 0) [
      | yes is ↦ ap kept_code (sym (kept_clear protect is)) ∙ (sym (kept_set (protect + 128) (λ clear. omega (arith, is, clear))) ∙ kept_clear protect is)
      | no never ↦ ap kept_code (sym (kept_set protect never))
    ]

-- "sets bit 7", and no other bit
pub kept_bits : (protect : ℕ) → ((kept_code protect / 128) % 2 ≡ 1) × (kept_code protect % 128 ≡ protect % 128) × (kept_code protect / 256 ≡ protect / 256)
kept_bits protect =
    elim (ℕ_discrete ((protect / 128) % 2) 0) [
      | yes is ↦ (omega (arith, is, kept_clear protect is), omega (arith, is, kept_clear protect is), omega (arith, is, kept_clear protect is))
      | no never ↦ (omega (arith, never, kept_set protect never), omega (arith, kept_set protect never), omega (arith, kept_set protect never))
    ]

-- "KEEP: owner only"
abbrev pub owner_only : ℕ → Entry → List Row
owner_only caller x = row (not (eqb caller x.uic)) 0o6 ∷ []

module _ (img : List ℕ) (key : Key) (caller : ℕ) where
  -- the file, where no row refuses
  pub keep_cleared : first_of (keep_rows img key caller) ≡ 0 → FileCleared img key
  unfolding keep_rows
  keep_cleared passed = asked_cleared (stage_clear img key false (owner_only caller) passed).file

  -- the decision
  module _ (asked : Asked) (is : asked ≡ asked_of img key false) where
    pub decide_refused : (code : ℕ) → asked ≡ Refused code → asked ≡ stage_of (keep_rows img key caller) img key
    unfolding keep_rows
    decide_refused code told = told ∙ stage_refused img key false (owner_only caller) asked is code told

    module _ (g : Geometry) (e : ℕ) (x : Entry) (told : asked ≡ File g e x) where
      pub decide_denied : (caller ≡ x.uic → ⊥) → Refused 0o6 ≡ stage_of (keep_rows img key caller) img key
      unfolding keep_rows
      decide_denied other =
          stage_stopped img key false (owner_only caller) asked is g e x told (refuse _ (ap not (ne_eqb caller x.uic other))) (λ is. omega (arith, is))

      pub decide_granted : caller ≡ x.uic → File g e x ≡ stage_of (keep_rows img key caller) img key
      unfolding keep_rows
      decide_granted owner =
          stage_passed img key false (owner_only caller) asked is g e x told (pass _ _ (ap not (eq-eqb caller x.uic owner)) ∙ clear) refl

  -- the answer behind it
  abbrev mark : Geometry → ℕ → Entry → List ℕ
  mark g e x = set_entry_word img g e 4 (kept_code x.protect)

  module _ (decision : Asked) (is : decision ≡ stage_of (keep_rows img key caller) img key) where
    pub keeping_refused : (code : ℕ) → decision ≡ Refused code → (code ≡ (keep img key caller).code) × (img ≡ (keep img key caller).image)
    unfolding keep
    keeping_refused = writing_refused (keep_rows img key caller) img key mark decision is

    module _ (g : Geometry) (e : ℕ) (x : Entry) (told : decision ≡ File g e x) where
      file : Given (keep_rows img key caller) img key g e x
      file = stage_is_file (keep_rows img key caller) img key g e x (sym is ∙ told)

      pub keeping_small : x.protect ≤ 255
      unfolding file_of
      keeping_small = subst (λ (y : Entry). y.protect ≤ 255) file.file (keep_cleared file.clear).used.protect

      pub keeping_room : (word : ℕ) → word ≡ kept_code x.protect → Sized img g × ((e < slots g) × (4 < 16) × (word < 65536))
      keeping_room word kept =
          let c = given_cleared file (keep_cleared file.clear) in
          (c.sized, (c.inside, omega arith, omega (arith, kept, kept_small x.protect keeping_small)))

      pub keeping_done : (word : ℕ) → word ≡ kept_code x.protect → (img' : List ℕ) → img' ≡ set_entry_word img g e 4 word
          → (0 ≡ (keep img key caller).code) × (img' ≡ (keep img key caller).image)
      unfolding keep
      keeping_done word kept img' written =
          writing_done (keep_rows img key caller) img key mark decision is g e x told img' (written ∙ ap (set_entry_word img g e 4) kept)
