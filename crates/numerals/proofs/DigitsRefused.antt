-- Exactly which characters and which numbers are refused, in any base.
use Prim.Native.Nat.{ℕ, ◌+◌, ◌≤◌, ◌<◌}
use mathlib.Core.Path.{◌≡◌}
use mathlib.Core.Logic.{◌⊎◌, ◌↔◌, ⊎_elim, ⊎_map}
use mathlib.Core.Bool.{false, ◌&&◌}
use mathlib.Core.List.{List}
use mathlib.Core.Option.{none}
use lib.Dec.{leb, ltb}
use borrow.Author.Tests.{lt-leb, le-ltb, leb-false, ltb-false}
use Rattle.numerals.specs.Digits.{is_digit_of, all_digits, value_of, digits, largest, number_of, digits_of}
use Rattle.answers.proofs.RefusalsTests.{first_fails, second_fails, either_fails, discard, discarded}
use Rattle.numerals.proofs.DigitsLimits.{digits_large}

pub not_digit : (base x : ℕ) → is_digit_of base x ≡ false ↔ (x < 48) ⊎ (48 + base ≤ x)
not_digit base x = (
  λ other. ⊎_map (leb-false 48 x) (ltb-false x (48 + base)) (either_fails (leb 48 x) (ltb x (48 + base)) other),
  ⊎_elim (λ low. first_fails (ltb x (48 + base)) (lt-leb 48 x low)) (λ high. second_fails (leb 48 x) (le-ltb x (48 + base) high)),
)

pub number_refused : (base : ℕ) (s : List ℕ) → number_of base s ≡ none ↔ (all_digits base s ≡ false) ⊎ (65535 < value_of base s)
unfolding number_of
number_refused base s = (
  λ is. ⊎_map (λ other. other) (leb-false (value_of base s) largest)
      (either_fails (all_digits base s) (leb (value_of base s) largest) (discarded (all_digits base s && leb (value_of base s) largest) (value_of base s) is)),
  ⊎_elim
      (λ other. discard (value_of base s) (first_fails (leb (value_of base s) largest) other))
      (λ large. discard (value_of base s) (second_fails (all_digits base s) (lt-leb (value_of base s) largest large))),
)

pub digits_refused : (base places n : ℕ) → digits_of base places n ≡ none ↔ 65535 < n
unfolding digits_of
digits_refused base places n = (
  λ is. leb-false n largest (discarded (leb n largest) (digits base places n) is),
  digits_large base places n,
)
