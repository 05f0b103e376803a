-- What a verdict says of the rows that it was made from, and which verdict a code makes.
use Prim.Native.Nat.{ℕ}
use mathlib.Core.Path.{◌≡◌, refl, sym, ap, ◌∙◌}
use mathlib.Core.List.{List}
use native.Mathlib.Omega.{arith}
use native.Mathlib.Decide.{ℕ_discrete}
use Rattle.answers.specs.Stage.{Verdict}
use Rattle.answers.specs.Stage.{Clear, Refused}
use Rattle.answers.specs.Refusals.{Row, first_of}
use Rattle.answers.specs.Stage.{verdict_of}
use Rattle.answers.proofs.Refusals.{success_is, refusal_is}

module _ (rows : List Row) where
  pub makes_clear : 0 ≡ first_of rows → Clear ≡ verdict_of rows
  unfolding verdict_of
  makes_clear none = sym (success_is _ _ (sym none))

  pub makes_refused : {code : ℕ} → code ≡ first_of rows → (code ≡ 0 → ⊥) → Refused code ≡ verdict_of rows
  unfolding verdict_of
  makes_refused first never = ap Refused first ∙ sym (refusal_is _ _ (λ zero. never (first ∙ zero)))

  module _ (verdict : Verdict) (is : verdict ≡ verdict_of rows) where
    pub told_clear : verdict ≡ Clear → first_of rows ≡ 0
    told_clear told = by (ℕ_discrete (first_of rows) 0)
      where
        by : Dec (first_of rows ≡ 0) → first_of rows ≡ 0
        by (yes none) = none
        by (no never) =
            let same : Clear ≡ Refused (first_of rows) = sym told ∙ (is ∙ sym (makes_refused refl never)) in
            let z : ◌≡◌ {A = ℕ} 0 1 = cc in absurd (omega arith)

    pub record Refusing (code : ℕ) : Type 0 where
      pub first : first_of rows ≡ code
      pub never : code ≡ 0 → ⊥

    pub told_refused : (code : ℕ) → verdict ≡ Refused code → Refusing code
    told_refused code told = by (ℕ_discrete (first_of rows) 0)
      where
        by : Dec (first_of rows ≡ 0) → Refusing code
        by (yes none) =
            let same : Clear ≡ Refused code = makes_clear (sym none) ∙ (sym is ∙ told) in
            let z : ◌≡◌ {A = ℕ} 0 1 = cc in absurd (omega arith)
        by (no never) =
            let same : Refused (first_of rows) ≡ Refused code = makes_refused refl never ∙ (sym is ∙ told) in
            let first : first_of rows ≡ code = cc in
            record { first = first; never = λ zero. never (first ∙ zero) }
