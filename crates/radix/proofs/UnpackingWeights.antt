-- The laws of the table of weights: what its entries are good for, and that what is left of the table decides the whole.
use Prim.Native.Nat.{ℕ, zero, suc, ◌+◌, ◌*◌, ◌/◌, ◌%◌, ◌^◌, ◌≤◌, ◌<◌}
use mathlib.Core.Path.{◌≡◌, refl}
use mathlib.Core.Bool.{Bool, true, ◌&&◌}
use mathlib.Core.List.{List, [], ◌∷◌}
use native.Mathlib.Omega.{arith}
use native.Mathlib.Numerals.{add-one}
use lib.Dec.{leb}
use lib.ListN.{length, get_or, drop, drop_of_length-le}
use lib.Seq.{drop-cons}
use borrow.Author.Tests.{leb-true}
use Rattle.answers.proofs.RefusalsTests.{parts}
use Rattle.radix.specs.Names.{every}
use Rattle.radix.specs.Packing.{upper_end}
use Rattle.radix.specs.Unpacking.{weights, lessened, through}

-- a test that passes at every entry passes at each
at_each : (t : ℕ → Bool) (s : List ℕ) (i : ℕ) → every t s ≡ true → i < length s → t (get_or s i 0) ≡ true
at_each t [] i all low = absurd (omega arith)
at_each t (x ∷ s) zero all low = (parts (t x) (every t s) all).0
at_each t (x ∷ s) (suc i) all low = at_each t s i (parts (t x) (every t s) all).1 (omega arith)

-- no entry is too large to be lifted over the bits
weight_lifted : (i : ℕ) → i < 12 → get_or weights i 0 * 4096 % 2 ^ 64 ≡ 4096 * get_or weights i 0
weight_lifted i low = let high = leb-true (get_or weights i 0) 51200 (at_each (λ weight. leb weight 51200) weights i refl low) in omega arith

pub word_lifted : {word : ℕ} → word < upper_end → word * 4096 % 2 ^ 64 ≡ 4096 * word
word_lifted low = omega arith

-- the rest of the table, one weight further
pub through_next : (i bit held : ℕ) {held' : ℕ} → i < 12 → held' ≡ lessened (get_or weights i 0 * 4096 % 2 ^ 64) bit held
    → through (drop i weights) bit held ≡ through (drop (i + 1) weights) (bit / 2) held'
unfolding through
through_next i bit held low is =
    rw (drop-cons weights i 0 low, add-one i, is, weight_lifted i low)

pub through_end : (i bit held : ℕ) → 12 ≤ i → through (drop i weights) bit held ≡ held
unfolding through
through_end i bit held high = rw (drop_of_length-le weights high)
