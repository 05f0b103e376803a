-- What digits are worth: a number's digits are worth the number, and no others of as many are.
use Prim.Native.Nat.{ℕ, zero, suc, ◌+◌, ◌-◌, ◌*◌, ◌/◌, ◌%◌, ◌^◌, ◌≤◌, ◌<◌}
use mathlib.Core.Path.{◌≡◌, refl, ap}
use mathlib.Core.Bool.{true}
use mathlib.Core.List.{List, [], ◌∷◌, ◌++◌}
use native.Mathlib.Omega.{arith}
use native.Mathlib.Nat.{mod-lt, div-add-mod', div-lt_iff_lt-mul, pow-zero, pow-suc, mul-add-div_right, div-eq_of_lt}
use lib.ListN.{length, length-append}
use Rattle.numerals.specs.Digits.{is_digit_of, all_digits, value_from, value_of, digits}
use Rattle.answers.proofs.RefusalsTests.{and_both, parts}
use Rattle.numerals.proofs.DigitsLimits.{digit, digit_bounds}

pub length_digits : (base places n : ℕ) → length (digits base places n) ≡ places
length_digits base zero n = refl
length_digits base (suc places) n = simp length-append (omega (arith, length_digits base places (n / base)))

-- digits behind digits
value_behind : (base before : ℕ) (s t : List ℕ) → value_from base before (s ++ t) ≡ value_from base (value_from base before s) t
value_behind base before [] t = refl
value_behind base before (x ∷ s) t = value_behind base (before * base + (x - 48)) s t

all_behind : (base : ℕ) (s t : List ℕ) → all_digits base s ≡ true → all_digits base t ≡ true → all_digits base (s ++ t) ≡ true
all_behind base [] t first second = second
all_behind base (x ∷ s) t first second =
    let here = parts (is_digit_of base x) (all_digits base s) first in
    and_both here.0 (all_behind base s t here.1 second)

-- what is written is digits, and their value is the number
pub digits_all : (base places n : ℕ) → 1 ≤ base → all_digits base (digits base places n) ≡ true
digits_all base zero n positive = refl
digits_all base (suc places) n positive =
    all_behind base (digits base places (n / base)) _ (digits_all base places (n / base) positive)
    (and_both (digit base (48 + n % base) (omega arith) (omega (arith, mod-lt n positive))) refl)

pub digits_value : (base places n : ℕ) → 1 ≤ base → n < base ^ places → value_of base (digits base places n) ≡ n
unfolding value_of
digits_value base zero n positive below = omega (arith, pow-zero base)
digits_value base (suc places) n positive below =
    let quotient : n / base < base ^ places = (div-lt_iff_lt-mul positive).1 (rw pow-suc at below) in
    rw (value_behind, digits_value base places (n / base) positive quotient) (omega (arith, div-add-mod' n base))

-- a sum of a multiple and a remainder has one quotient
same_quotient : (base m n x y : ℕ) → x < base → y < base → m * base + x ≡ n * base + y → m ≡ n
same_quotient base m n x y x-small y-small same =
    let positive : 0 < base = omega arith in
    omega (arith, mul-add-div_right positive m x, mul-add-div_right positive n y, div-eq_of_lt x-small, div-eq_of_lt y-small, ap (λ (k : ℕ). k / base) same)

-- two lists of as many digits that have one value are one list
pub same_digits : (base m n : ℕ) (s t : List ℕ) → length s ≡ length t → all_digits base s ≡ true → all_digits base t ≡ true
    → value_from base m s ≡ value_from base n t → (m ≡ n) × (s ≡ t)
same_digits base m n [] [] long all-s all-t same = (same, refl)
same_digits base m n (x ∷ s) [] long all-s all-t same = absurd (omega arith)
same_digits base m n [] (y ∷ t) long all-s all-t same = absurd (omega arith)
same_digits base m n (x ∷ s) (y ∷ t) long all-s all-t same =
    let in-s = parts (is_digit_of base x) (all_digits base s) all-s in
    let in-t = parts (is_digit_of base y) (all_digits base t) all-t in
    let x-bounds = digit_bounds base x in-s.0 in
    let y-bounds = digit_bounds base y in-t.0 in
    let behind = same_digits base (m * base + (x - 48)) (n * base + (y - 48)) s t (omega arith) in-s.1 in-t.1 same in
    let before : m ≡ n = same_quotient base m n (x - 48) (y - 48) (omega arith) (omega arith) behind.0 in
    let digit : x ≡ y = omega (arith, ap (λ (k : ℕ). k * base) before) in
    (before, cc behind.1)
