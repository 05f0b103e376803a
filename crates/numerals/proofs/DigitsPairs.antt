-- Reading and writing undo each other, in any base with room for the largest number.
use Prim.Native.Nat.{ℕ, ◌^◌, ◌≤◌, ◌<◌}
use mathlib.Core.Path.{◌≡◌, sym, ap, ◌∙◌}
use mathlib.Core.List.{List}
use mathlib.Core.Option.{some}
use native.Mathlib.Omega.{arith}
use lib.ListN.{length}
use Rattle.answers.proofs.Conversion.{Pair}
use Rattle.numerals.specs.Digits.{value_of, digits, largest, number_of, digits_of}
use Rattle.numerals.proofs.DigitsLimits.{number_small, number_limits, digits_small, digits_limits}
use Rattle.numerals.proofs.DigitsValues.{length_digits, digits_all, digits_value, same_digits}

pub numeral_pair : (base places : ℕ) → 2 ≤ base → 65535 < base ^ places → Pair places (number_of base) (digits_of base places)
unfolding value_of
numeral_pair base places least room = record { sized = sized; back = back; forth = forth }
  where
    below : {n : ℕ} → n ≤ largest → n < base ^ places
    below small = omega arith

    sized : (n : ℕ) (s : List ℕ) → digits_of base places n ≡ some s → length s ≡ places
    sized n s is = rw (← (digits_limits base places n is).1) (length_digits base places n)

    back : (n : ℕ) (s : List ℕ) → digits_of base places n ≡ some s → number_of base s ≡ some n
    back n s is =
        let taken = digits_limits base places n is in
        let is-value = digits_value base places n (omega arith) (below taken.0) in
        let all = digits_all base places n (omega arith) in
        rw (← taken.1) (number_small base (digits base places n) all (omega (arith, is-value)) ∙ ap some is-value)

    forth : (s : List ℕ) (n : ℕ) → length s ≡ places → number_of base s ≡ some n → digits_of base places n ≡ some s
    forth s n long is =
        let taken = number_limits base s is in
        let is-value = digits_value base places n (omega arith) (below taken.2) in
        let as_long = length_digits base places n ∙ sym long in
        let all = digits_all base places n (omega arith) in
        let same = same_digits base 0 0 (digits base places n) s as_long all taken.0 (is-value ∙ sym taken.1) in
        digits_small base places n taken.2 ∙ ap some same.1
