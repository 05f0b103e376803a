-- What is within the limits of digits and of the largest number, and what that tells.
use Prim.Native.Nat.{ℕ, ◌+◌, ◌≤◌, ◌<◌}
use mathlib.Core.Path.{◌≡◌, ap, ◌∙◌}
use mathlib.Core.Bool.{true, ◌&&◌}
use mathlib.Core.List.{List}
use mathlib.Core.Option.{none, some}
use native.Mathlib.Omega.{arith}
use lib.Dec.{leb, ltb}
use borrow.Author.Tests.{le-leb, lt-leb, lt-ltb, leb-true, ltb-true}
use Rattle.numerals.specs.Digits.{is_digit_of, all_digits, value_of, digits, largest, number_of, digits_of}
use Rattle.answers.proofs.RefusalsTests.{and_both, parts, keep, kept, discard}

pub digit : (base x : ℕ) → 48 ≤ x → x < 48 + base → is_digit_of base x ≡ true
digit base x low high = and_both (le-leb 48 x low) (lt-ltb x (48 + base) high)

pub digit_bounds : (base x : ℕ) → is_digit_of base x ≡ true → (48 ≤ x) × (x < 48 + base)
digit_bounds base x is =
    let bounds = parts (leb 48 x) (ltb x (48 + base)) is in
    (leb-true 48 x bounds.0, ltb-true x (48 + base) bounds.1)

pub number_small : (base : ℕ) (s : List ℕ) → all_digits base s ≡ true → value_of base s ≤ largest → number_of base s ≡ some (value_of base s)
unfolding number_of
number_small base s all small = keep (value_of base s) (and_both all (le-leb (value_of base s) largest small))

pub number_limits : (base : ℕ) (s : List ℕ) {n : ℕ} → number_of base s ≡ some n → (all_digits base s ≡ true) × (value_of base s ≡ n) × (n ≤ largest)
unfolding number_of
number_limits base s is =
    let whole = kept (all_digits base s && leb (value_of base s) largest) (value_of base s) is in
    let tests = parts (all_digits base s) (leb (value_of base s) largest) whole.0 in
    (tests.0, whole.1, omega (arith, leb-true (value_of base s) largest tests.1))

pub digits_small : (base places n : ℕ) → n ≤ largest → digits_of base places n ≡ some (digits base places n)
unfolding digits_of
digits_small base places n small = keep (digits base places n) (le-leb n largest small)

pub digits_large : (base places n : ℕ) → largest < n → digits_of base places n ≡ none
unfolding digits_of
digits_large base places n large = discard (digits base places n) (lt-leb n largest large)

pub digits_limits : (base places n : ℕ) {s : List ℕ} → digits_of base places n ≡ some s → (n ≤ largest) × (digits base places n ≡ s)
unfolding digits_of
digits_limits base places n is =
    let whole = kept (leb n largest) (digits base places n) is in
    (leb-true n largest whole.0, whole.1)

-- what was written into a buffer of so many places is the digits asked
pub digits_written : (base n : ℕ) {places size : ℕ} {s : List ℕ} → size ≡ places → n ≤ largest → s ≡ digits base size n
    → digits_of base places n ≡ some s
digits_written base n sized small is = digits_small base _ n small ∙ ap some (rw (is, sized))
