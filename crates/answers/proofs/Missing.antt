-- What may be missing, by its test.
use Prim.Native.Nat.{ℕ}
use mathlib.Core.Path.{◌≡◌, refl}
use mathlib.Core.Bool.{false, not, true}
use mathlib.Core.Option.{Option, none, some}
use mathlib.Core.Logic.{◌↔◌}
use native.Mathlib.Omega.{arith}
use Rattle.answers.specs.Missing.{missing, or_else}

pub present : (o : Option ℕ) → missing o ≡ false → o ≡ some (or_else 0 o)
present none is = let z : ◌≡◌ {A = ℕ} 0 1 = cc in absurd (omega arith)
present (some e) is = refl

pub absent : {A : Type 0} (o : Option A) → not (missing o) ≡ false → o ≡ none
absent none is = refl
absent (some a) is = let z : ◌≡◌ {A = ℕ} 0 1 = cc in absurd (omega arith)

-- the test says what the want of an answer says
pub missing_iff : {A P : Type 0} (o : Option A) → o ≡ none ↔ P → missing o ≡ true ↔ P
missing_iff none iff = (λ t. iff.0 refl, λ p. refl)
missing_iff (some a) iff = (
  λ t. let z : ◌≡◌ {A = ℕ} 0 1 = cc in absurd (omega arith),
  λ p. let never = iff.1 p in let z : ◌≡◌ {A = ℕ} 0 1 = cc in absurd (omega arith),
)
