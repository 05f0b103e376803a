-- The bytes of a text, one by one: each is discarded, ends a line or is plain; what is kept of two parts, and how far the first is that passes a test.
use Prim.Native.Nat.{ℕ, suc, ◌≤◌, ◌<◌}
use mathlib.Core.Path.{◌≡◌, refl}
use mathlib.Core.Bool.{Bool, true, false, cond}
use mathlib.Core.List.{List, [], ◌∷◌, ◌++◌}
use native.Mathlib.Omega.{arith}
use lib.ListN.{length}
use borrow.Author.Tests.{eqb-true}
use lib.Dec.{eqb}
use Rattle.lines.specs.TextBytes.{seven_bits, is_discarded, is_terminator, kept_of, through}

-- a byte that is discarded ends no line
pub data ByteKind (x : ℕ) : Type 0 where
  discarded : is_discarded (seven_bits x) ≡ true → is_terminator (seven_bits x) ≡ false → ByteKind x
  ends : is_discarded (seven_bits x) ≡ false → is_terminator (seven_bits x) ≡ true → ByteKind x
  plain : is_discarded (seven_bits x) ≡ false → is_terminator (seven_bits x) ≡ false → ByteKind x

pub kind_of : (x : ℕ) → ByteKind x
kind_of x = by (eqb (seven_bits x) 0) (eqb (seven_bits x) 127) (is_terminator (seven_bits x)) refl refl refl
  where
    by : (nul rubout terminator : Bool) → eqb (seven_bits x) 0 ≡ nul → eqb (seven_bits x) 127 ≡ rubout → is_terminator (seven_bits x) ≡ terminator → ByteKind x
    by true rubout terminator n r t = discarded (rw n) (rw (eqb-true (seven_bits x) 0 n))
    by false true terminator n r t = discarded (rw (n, r)) (rw (eqb-true (seven_bits x) 127 r))
    by false false true n r t = ends (rw (n, r)) t
    by false false false n r t = plain (rw (n, r)) t

-- what is kept of two parts
pub kept_append : (s t : List ℕ) → kept_of (s ++ t) ≡ kept_of s ++ kept_of t
unfolding kept_of
kept_append [] t = refl
kept_append (x ∷ s) t = by (is_discarded (seven_bits x)) (kept_append s t)
  where
    by : (discarded : Bool) → kept_of (s ++ t) ≡ kept_of s ++ kept_of t
        → cond discarded (kept_of (s ++ t)) (seven_bits x ∷ kept_of (s ++ t)) ≡ cond discarded (kept_of s) (seven_bits x ∷ kept_of s) ++ kept_of t
    by true same = same
    by false same = rw same

-- how far the first is that passes a test
module _ (test : ℕ → Bool) where
  pub through_most : (s : List ℕ) → through test s ≤ length s
  unfolding through
  through_most [] = omega arith
  through_most (x ∷ s) = by (test x) (through_most s)
    where
      by : (here : Bool) → through test s ≤ length s → suc (cond here 0 (through test s)) ≤ suc (length s)
      by true rest = omega arith
      by false rest = omega arith

  pub through_some : (s : List ℕ) → 0 < length s → 0 < through test s
  unfolding through
  through_some [] none = none
  through_some (x ∷ s) none = omega arith
