-- "which are present": the bits of the number, and the number of the bits.
use Prim.Native.Nat.{ℕ, ◌+◌, ◌*◌, ◌/◌, ◌%◌, ◌≤◌, ◌<◌}
use mathlib.Core.Path.{◌≡◌, refl, sym, subst}
use mathlib.Core.Bool.{Bool, true, false}
use native.Mathlib.Omega.{arith}
use native.Mathlib.Decide.{ℕ_discrete}
use borrow.Author.Tests.{eq-eqb, ne_eqb}
use lib.Dec.{eqb}
use Rattle.command_parts.specs.Numbers.{bit, present_bits}

pub record Bits (number : ℕ) (device name extension uic : Bool) : Type 0 where
  pub zeroth : device ≡ eqb (number % 2) 1
  pub first : name ≡ eqb ((number / 2) % 2) 1
  pub second : extension ≡ eqb ((number / 4) % 2) 1
  pub third : uic ≡ eqb (number / 8) 1
  pub most : number ≤ 15

bits_of : (a b c d : Bool) → Bits (present_bits a b c d) a b c d
bits_of true true true true = record { zeroth = refl; first = refl; second = refl; third = refl; most = omega arith }
bits_of true true true false = record { zeroth = refl; first = refl; second = refl; third = refl; most = omega arith }
bits_of true true false true = record { zeroth = refl; first = refl; second = refl; third = refl; most = omega arith }
bits_of true true false false = record { zeroth = refl; first = refl; second = refl; third = refl; most = omega arith }
bits_of true false true true = record { zeroth = refl; first = refl; second = refl; third = refl; most = omega arith }
bits_of true false true false = record { zeroth = refl; first = refl; second = refl; third = refl; most = omega arith }
bits_of true false false true = record { zeroth = refl; first = refl; second = refl; third = refl; most = omega arith }
bits_of true false false false = record { zeroth = refl; first = refl; second = refl; third = refl; most = omega arith }
bits_of false true true true = record { zeroth = refl; first = refl; second = refl; third = refl; most = omega arith }
bits_of false true true false = record { zeroth = refl; first = refl; second = refl; third = refl; most = omega arith }
bits_of false true false true = record { zeroth = refl; first = refl; second = refl; third = refl; most = omega arith }
bits_of false true false false = record { zeroth = refl; first = refl; second = refl; third = refl; most = omega arith }
bits_of false false true true = record { zeroth = refl; first = refl; second = refl; third = refl; most = omega arith }
bits_of false false true false = record { zeroth = refl; first = refl; second = refl; third = refl; most = omega arith }
bits_of false false false true = record { zeroth = refl; first = refl; second = refl; third = refl; most = omega arith }
bits_of false false false false = record { zeroth = refl; first = refl; second = refl; third = refl; most = omega arith }

pub present_bits_law : {number : ℕ} (a b c d : Bool) → present_bits a b c d ≡ number → Bits number a b c d
present_bits_law a b c d is = subst (λ n. Bits n a b c d) is (bits_of a b c d)

bit_back : (n : ℕ) → n < 2 → bit (eqb n 1) ≡ n
bit_back n few = at (ℕ_discrete n 1)
  where
    at : Dec (n ≡ 1) → bit (eqb n 1) ≡ n
    at (yes is) = rw (eq-eqb n 1 is) (sym is)
    at (no other) = rw (ne_eqb n 1 other) (omega arith)

pub bits_present : (number : ℕ) → number ≤ 15
    → present_bits (eqb (number % 2) 1) (eqb ((number / 2) % 2) 1) (eqb ((number / 4) % 2) 1) (eqb (number / 8) 1) ≡ number
bits_present n few =
    let a = bit_back (n % 2) (omega arith) in
    let b = bit_back ((n / 2) % 2) (omega arith) in
    let c = bit_back ((n / 4) % 2) (omega arith) in
    let d = bit_back (n / 8) (omega arith) in
    let quarter : (n / 2) / 2 ≡ n / 4 = omega arith in
    let eighth : (n / 4) / 2 ≡ n / 8 = omega arith in
    let whole : n % 2 + (2 * ((n / 2) % 2) + (4 * ((n / 4) % 2) + 8 * (n / 8))) ≡ n = omega arith in
    omega (arith, a, b, c, d, whole)
