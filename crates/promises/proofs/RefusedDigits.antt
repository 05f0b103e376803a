-- Characters that are refused as a number: one of them is no digit of the base, or their number is too large.
use Prim.Native.Nat.{ℕ, zero, suc, ◌+◌, ◌≤◌, ◌<◌}
use mathlib.Core.Path.{◌≡◌}
use mathlib.Core.Logic.{◌⊎◌, ◌↔◌, ⊎_elim, ⊎_map}
use mathlib.Core.Bool.{false}
use mathlib.Core.List.{List, [], ◌∷◌}
use mathlib.Core.Option.{none}
use native.Mathlib.Omega.{arith}
use lib.ListN.{length, get_or}
use Rattle.numerals.specs.Digits.{is_digit_of, all_digits, number_of}
use Rattle.answers.proofs.RefusalsTests.{first_fails, second_fails, either_fails}
use Rattle.numerals.proofs.DigitsRefused.{not_digit, number_refused}
use Rattle.promises.specs.Refused.{NoDigit, NotNumeral}

module _ (base : ℕ) where
  here : (x : ℕ) (s : List ℕ) → (x < 48) ⊎ (48 + base ≤ x) → NoDigit base (x ∷ s)
  here x s out = record { place = 0; inside = omega arith; outside = out }

  behind : (x : ℕ) (s : List ℕ) → NoDigit base s → NoDigit base (x ∷ s)
  behind x s there = record { place = suc there.place; inside = omega arith; outside = there.outside }

  found : (s : List ℕ) → all_digits base s ≡ false → NoDigit base s
  found [] fails = let z : ◌≡◌ {A = ℕ} 0 1 = cc in absurd (omega arith)
  found (x ∷ s) fails =
      ⊎_elim (λ other. here x s ((not_digit base x).0 other)) (λ rest. behind x s (found s rest)) (either_fails (is_digit_of base x) (all_digits base s) fails)

  fails : (s : List ℕ) (place : ℕ) → place < length s → (get_or s place 0 < 48) ⊎ (48 + base ≤ get_or s place 0) → all_digits base s ≡ false
  fails [] place inside outside = absurd (omega arith)
  fails (x ∷ s) zero inside outside = first_fails (all_digits base s) ((not_digit base x).1 outside)
  fails (x ∷ s) (suc place) inside outside = second_fails (is_digit_of base x) (fails s place (omega arith) outside)

  pub not_digits : (s : List ℕ) → all_digits base s ≡ false ↔ NoDigit base s
  not_digits s = (found s, λ there. fails s there.place there.inside there.outside)

  pub not_numeral : (s : List ℕ) → number_of base s ≡ none ↔ NotNumeral base s
  not_numeral s = (
    λ is. ⊎_map (not_digits s).0 (λ large. large) ((number_refused base s).0 is),
    λ is. (number_refused base s).1 (⊎_map (not_digits s).1 (λ large. large) is),
  )
