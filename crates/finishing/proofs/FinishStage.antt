-- Finish: what the code answers at each of its returns.
use Prim.Native.Nat.{ℕ}
use mathlib.Core.Path.{◌≡◌, sym, ap, ◌∙◌}
use mathlib.Core.Bool.{not}
use mathlib.Core.List.{List, [], ◌∷◌}
use native.Mathlib.Omega.{arith}
use lib.ListN.{length}
use Rattle.answers.specs.Refusals.{first_of}
use Rattle.answers.proofs.Refusals.{refuse}
use Rattle.pack.specs.declared.Geometry.{Geometry}
use Rattle.pack.specs.Geometry.{geometry_of}
use Rattle.pack.specs.Consistent.{Consistent}
use Rattle.consistency.specs.ConsistentTest.{Opened}
use Rattle.std.specs.Prelude.{Some, None}
use Rattle.consistency.specs.ConsistentTest.{opened_of}
use Rattle.consistency.proofs.ConsistentTestIff.{opened_good, opened_bad}
use Rattle.asking.proofs.Outcome.{refused_answer, done_answer}
use Rattle.finishing.specs.ScratchTest.{scratch_keys}
use Rattle.finishing.specs.FinishRows.{finish_rows}
use Rattle.finishing.specs.Finish.{deleted_all, finish}
use Rattle.finishing.proofs.FinishEffect.{right_clear}

module _ (img : List ℕ) (caller : ℕ) (r : Opened) (is : r ≡ opened_of img) where
  refused : r ≡ None → first_of (finish_rows img) ≡ 0o40
  unfolding finish_rows
  refused bad = refuse [] (ap not (opened_bad img (sym is ∙ bad)))

  pub finish_40 : r ≡ None → (0o40 ≡ (finish img caller).code) × (((0 ∷ []) ≡ (finish img caller).numbers) × (img ≡ (finish img caller).image))
  unfolding finish
  finish_40 bad = let o = refused_answer (finish_rows img) img [] _ (refused bad) (λ zero. omega (arith, zero)) in (o.0, (o.1, o.2))

  module _ (g : Geometry) (good : r ≡ Some g) where
    pub finish_good : Consistent img × (geometry_of img ≡ g)
    finish_good = let o = opened_good img g (sym is ∙ good) in (o.0, o.1)

    pub finish_done : (number : ℕ) (img' : List ℕ) → number ≡ length (scratch_keys img caller) → img' ≡ deleted_all img caller (scratch_keys img caller)
        → (0 ≡ (finish img caller).code) × (((number ∷ []) ≡ (finish img caller).numbers) × (img' ≡ (finish img caller).image))
    unfolding finish
    finish_done number img' told written =
        let o = done_answer (finish_rows img) img [] _ (right_clear finish_good.0) (number ∷ []) img' (ap (λ (n : ℕ). n ∷ []) told) written in
        (o.0, (o.1, o.2))
