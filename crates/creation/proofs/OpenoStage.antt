-- OPENO: its place in the table, and what each of its answers comes to.
use Prim.Native.Nat.{ℕ, ◌<◌}
use mathlib.Core.Path.{◌≡◌, refl, ◌∙◌}
use mathlib.Core.Bool.{true, false}
use mathlib.Core.List.{List, []}
use native.Mathlib.Omega.{arith}
use lib.ListN.{get_or}
use Rattle.answers.specs.Refusals.{table_order, in_order}
use Rattle.pack.specs.declared.Geometry.{Geometry}
use Rattle.pack.specs.declared.Key.{Key}
use Rattle.pack.specs.Geometry.{slots}
use Rattle.pack.specs.GeometrySized.{Sized}
use Rattle.asking.proofs.Outcome.{done_answer, refused_answer}
use Rattle.pack.specs.EntryWords.{words_of, set_entry_words}
use Rattle.pack.specs.EntryFields.{WordFields}
use Rattle.creation.specs.Creating.{new_file}
use Rattle.creation.specs.CreatingStage.{Creating, At, Refused, creating_of}
use Rattle.creation.specs.OpenoRows.{openo_rows}
use Rattle.creation.specs.Openo.{openo, empty_output}
use Rattle.creation.proofs.CreatingStage.{creating_ordered, creatable, allowed, forbidden}
use Rattle.creation.proofs.CreatingWritten.{created_at, writable, sized_at, inside_at}

pub openo_ordered : (img : List ℕ) (key : Key) (caller protect : ℕ) → in_order table_order 0 (openo_rows img key caller protect) ≡ true
openo_ordered img key caller protect = creating_ordered img key caller protect false

module _ (img : List ℕ) (key : Key) (caller protect : ℕ) (answer : Creating) (is : answer ≡ creating_of img key caller protect false) where
  pub openo_denied : (code : ℕ) → answer ≡ Refused code → (code ≡ (openo img key caller protect).code) × (img ≡ (openo img key caller protect).image)
  unfolding openo
  openo_denied code told =
      let f = forbidden img key caller protect false answer is code told in
      let r = refused_answer (openo_rows img key caller protect) img [] _ f.first f.never in
      (r.0, r.2)

  module _ (g : Geometry) (e : ℕ) (told : answer ≡ At g e) where
    pub openo_ready : ((i : ℕ) → get_or img i 0 < 256) → Sized img g × ((e < slots g) × WordFields (new_file key protect empty_output))
    openo_ready bytes =
        let a = allowed img key caller protect false answer is g e told in
        let ready = creatable img key caller protect false a.clear in (
          sized_at ready a.measures a.number,
          (inside_at ready a.measures a.number, writable ready bytes empty_output (omega arith) (omega arith) (omega arith) (omega arith) (omega arith)),
        )

    pub openo_done : (img' : List ℕ) → img' ≡ set_entry_words img g e 0 (words_of (new_file key protect empty_output))
        → (0 ≡ (openo img key caller protect).code) × (img' ≡ (openo img key caller protect).image)
    unfolding openo
    openo_done img' written =
        let a = allowed img key caller protect false answer is g e told in
        let d = done_answer (openo_rows img key caller protect) img [] _ a.clear [] img' refl (written ∙ created_at img _ g e a.measures a.number) in
        (d.0, d.2)
