-- Reading from the left: what each character does to the number that was read so far.
use Prim.Native.Nat.{ℕ, ◌+◌, ◌-◌, ◌*◌, ◌≤◌, ◌<◌}
use mathlib.Core.Path.{◌≡◌, refl}
use mathlib.Core.List.{List, [], ◌∷◌}
use mathlib.Core.Option.{none, some}
use native.Mathlib.Omega.{arith}
use native.Mathlib.Nat.{mul-le-mul, le-mul_of_pos_right}
use native.Mathlib.Numerals.{add-one}
use lib.Dec.{leb}
use lib.ListN.{length, get_or, drop, drop_of_length-le}
use lib.Seq.{drop-cons}
use borrow.Author.Tests.{lt-leb, le-leb, le-ltb}
use Rattle.numerals.specs.Digits.{all_digits, value_from, value_of, largest, number_of}
use Rattle.numerals.specs.Remaining.{number_from}
use Rattle.answers.proofs.RefusalsTests.{second_fails, keep, discard}
use Rattle.numerals.proofs.DigitsLimits.{digit}

pub from_nothing : (base : ℕ) (s : List ℕ) → number_of base s ≡ number_from base 0 s
unfolding number_of value_of number_from
from_nothing base s = refl

-- the digits behind a number make it no smaller
pub value_grows : (base n : ℕ) (s : List ℕ) → 1 ≤ base → n ≤ value_from base n s
value_grows base n [] positive = omega arith
value_grows base n (x ∷ s) positive = omega (arith, value_grows base (n * base + (x - 48)) s positive, le-mul_of_pos_right n positive)

pub from_large : (base n : ℕ) (s : List ℕ) → 1 ≤ base → largest < n → number_from base n s ≡ none
unfolding number_from
from_large base n s positive large =
    discard _ (second_fails (all_digits base s) (lt-leb (value_from base n s) largest (omega (arith, value_grows base n s positive))))

module _ (base n : ℕ) (s : List ℕ) (i : ℕ) (inside : i < length s) where
  pub from_digit : 48 ≤ get_or s i 0 → get_or s i 0 < 48 + base
      → number_from base n (drop i s) ≡ number_from base (n * base + (get_or s i 0 - 48)) (drop (i + 1) s)
  unfolding number_from
  from_digit low high = rw (add-one, drop-cons s i 0, digit base (get_or s i 0) low high)

  pub from_low : get_or s i 0 < 48 → number_from base n (drop i s) ≡ none
  unfolding number_from
  from_low low = rw (drop-cons s i 0, lt-leb 48 (get_or s i 0) low)

  pub from_high : 48 + base ≤ get_or s i 0 → number_from base n (drop i s) ≡ none
  unfolding number_from
  from_high high = rw (drop-cons s i 0, second_fails (leb 48 (get_or s i 0)) (le-ltb (get_or s i 0) (48 + base) high))

pub from_end : (base n : ℕ) (s : List ℕ) (i : ℕ) → length s ≤ i → n ≤ largest → number_from base n (drop i s) ≡ some n
unfolding number_from
from_end base n s i end small = rw (drop_of_length-le s end) (keep n (le-leb n largest small))

-- so the code's product fits
pub small_product : {n base : ℕ} → n ≤ largest → base ≤ 10 → n * base ≤ 655350
small_product small few = mul-le-mul small few
