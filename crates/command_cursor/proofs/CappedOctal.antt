-- A number as far as 256: what digits behind it make of it; and that it keeps a bound below 256 exactly when the whole number does.
use Prim.Native.Nat.{ℕ, ◌+◌, ◌-◌, ◌*◌, ◌≤◌, ◌<◌}
use mathlib.Core.Path.{◌≡◌, sym, ap, ◌∙◌}
use mathlib.Core.List.{List, [], ◌∷◌}
use native.Mathlib.Decide.{dec_lt}
use native.Mathlib.Omega.{arith}
use borrow.Author.Tests.{lt-ltb, le-ltb, lt-leb}
use lib.Dec.{leb}
use Rattle.numerals.specs.Digits.{value_from}
use Rattle.command_cursor.specs.Capped.{capped}

pub capped_low : (n : ℕ) → n < 256 → capped n ≡ n
unfolding capped
capped_low n low = rw (lt-ltb n 256 low)

capped_high : (n : ℕ) → 256 ≤ n → capped n ≡ 256
unfolding capped
capped_high n high = rw (le-ltb n 256 high)

capped_most : (n : ℕ) → capped n ≤ 256
capped_most n = by (dec_lt n 256)
  where
    by : Dec (n < 256) → capped n ≤ 256
    by (yes low) = omega (arith, capped_low n low)
    by (no high) = omega (arith, capped_high n (omega arith))

pub capped_within : (n : ℕ) {m : ℕ} → m ≡ capped n → m ≤ 256
capped_within n is = omega (arith, is, capped_most n)

pub capped_whole : (n : ℕ) → n ≤ 256 → capped n ≡ n
capped_whole n few = by (dec_lt n 256)
  where
    by : Dec (n < 256) → capped n ≡ n
    by (yes low) = capped_low n low
    by (no high) = omega (arith, capped_high n (omega arith))

pub capped_keeps : (n bound : ℕ) → bound < 256 → leb (capped n) bound ≡ leb n bound
capped_keeps n bound small = by (dec_lt n 256)
  where
    by : Dec (n < 256) → leb (capped n) bound ≡ leb n bound
    by (yes low) = ap (λ (m : ℕ). leb m bound) (capped_low n low)
    by (no high) =
        let cap = capped_high n (omega arith) in
        lt-leb (capped n) bound (omega (arith, cap)) ∙ sym (lt-leb n bound (omega arith))

capped_digit : (a x : ℕ) → capped (a * 8 + x) ≡ capped (capped a * 8 + x)
capped_digit a x = by (dec_lt a 256)
  where
    by : Dec (a < 256) → capped (a * 8 + x) ≡ capped (capped a * 8 + x)
    by (yes low) = rw (capped_low a low)
    by (no high) =
        let cap = capped_high a (omega arith) in
        capped_high (a * 8 + x) (omega arith) ∙ sym (capped_high (capped a * 8 + x) (omega (arith, cap)))

pub capped_from_law : (a : ℕ) (ds : List ℕ) → capped (value_from 8 a ds) ≡ capped (value_from 8 (capped a) ds)
capped_from_law a [] = sym (capped_whole (capped a) (capped_most a))
capped_from_law a (d ∷ ds) =
    capped_from_law (a * 8 + (d - 48)) ds
    ∙ ap (λ (m : ℕ). capped (value_from 8 m ds)) (capped_digit a (d - 48))
    ∙ sym (capped_from_law (capped a * 8 + (d - 48)) ds)
