-- The stage of a request that writes bytes: what each answer of linked add's stage comes to.
use Prim.Native.Nat.{ℕ, ◌+◌, ◌/◌, ◌<◌}
use mathlib.Core.Path.{◌≡◌, refl, sym, ap, ◌∙◌}
use mathlib.Core.Bool.{Bool, true, false, not, ◌||◌, false≢true}
use mathlib.Core.List.{List}
use native.Mathlib.Omega.{arith}
use lib.Dec.{eqb, leb}
use lib.ListN.{length}
use borrow.Author.Tests.{eqb-true, leb-false}
use Rattle.answers.specs.Refusals.{first_of}
use Rattle.pack.specs.declared.Key.{Key}
use Rattle.pack.specs.Geometry.{geometry_of, payload_bytes}
use Rattle.consistency.specs.ConsistentTest.{consistent}
use Rattle.asking.specs.AskedStage.{Asked}
use Rattle.asking.specs.KeysTest.{legal_key}
use Rattle.asking.specs.AskedStage.{file_rows, stage_of}
use Rattle.adding.specs.LinkedAddRows.{linked_add_rows}
use Rattle.stream.specs.Gather.{gathered}
use Rattle.stream.proofs.Gather.{gathered_count}
use Rattle.stream.specs.BytesWriting.{wrong_gather, gathered_in, writing_rows}

-- neither the gather buffer nor another argument is wrong
pub record Fitting (img : List ℕ) (wrong : Bool) (gather : List ℕ) (filled : ℕ) : Type 0 where
  pub whole : length gather ≡ payload_bytes (geometry_of img)
  pub room : filled < payload_bytes (geometry_of img)
  pub other : wrong ≡ false

fits_by : (same over wrong : Bool) → ((not same || over) || wrong) ≡ false → (same ≡ true) × (over ≡ false) × (wrong ≡ false)
fits_by true false false is = (refl, refl, refl)
fits_by true false true is = (refl, refl, is)
fits_by true true wrong is = absurd (false≢true (sym is))
fits_by false over wrong is = absurd (false≢true (sym is))

pub argument_fits : (img : List ℕ) (wrong : Bool) (gather : List ℕ) (filled : ℕ) → (wrong_gather img gather filled || wrong) ≡ false → Fitting img wrong gather filled
argument_fits img wrong gather filled argument =
    let a = fits_by (eqb (length gather) (payload_bytes (geometry_of img))) (leb (payload_bytes (geometry_of img)) filled) wrong argument in
    record { whole = eqb-true _ _ a.0; room = leb-false _ _ a.1; other = a.2 }

module _ (img : List ℕ) (key : Key) (caller : ℕ) where
  -- where an argument is wrong nobody looks at how many blocks are needed
  by_any : (n m : ℕ) (right legal : Bool) → consistent img ≡ right → legal_key key ≡ legal
      → first_of (linked_add_rows img key caller true n) ≡ first_of (linked_add_rows img key caller true m)
  unfolding linked_add_rows file_rows first_of
  by_any n m true true r l = rw (r, l)
  by_any n m true false r l = rw (r, l)
  by_any n m false legal r l = rw r

  any_needed : (n m : ℕ) → stage_of (linked_add_rows img key caller true n) img key ≡ stage_of (linked_add_rows img key caller true m) img key
  unfolding stage_of
  any_needed n m = rw (by_any n m (consistent img) (legal_key key) refl refl)

  -- the count of blocks that the code came to: it is right where the gather buffer is
  module _ (wrong : Bool) (gather : List ℕ) (filled : ℕ) (put : List ℕ) {blocks : ℕ} (counted : filled < length gather → blocks ≡ (filled + length put) / length gather) where
    abbrev needed : ℕ
    needed = length (gathered_in img gather filled put).full

    enough : wrong_gather img gather filled ≡ false → blocks ≡ needed
    enough right =
        let fits = argument_fits img false gather filled (rw right) in
        let room : filled < length gather = omega (arith, fits.whole, fits.room) in
        counted room ∙ sym (gathered_count (length gather) gather filled room refl put)
        ∙ ap (λ (n : ℕ). length (gathered n gather filled put).full) fits.whole

    by_fitting : (unfit : Bool) → wrong_gather img gather filled ≡ unfit
        → stage_of (linked_add_rows img key caller (unfit || wrong) blocks) img key ≡ stage_of (linked_add_rows img key caller (unfit || wrong) needed) img key
    by_fitting true is = any_needed blocks needed
    by_fitting false is = ap (λ (n : ℕ). stage_of (linked_add_rows img key caller wrong n) img key) (enough is)

    pub stage_written : {unfit : Bool} → unfit ≡ wrong_gather img gather filled → {asked : Asked}
        → asked ≡ stage_of (linked_add_rows img key caller (unfit || wrong) blocks) img key → asked ≡ stage_of (writing_rows img key caller wrong gather filled put) img key
    stage_written {unfit} judged is =
        is ∙ by_fitting unfit (sym judged) ∙ ap (λ (w : Bool). stage_of (linked_add_rows img key caller (w || wrong) needed) img key) judged
