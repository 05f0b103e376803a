-- How often a number stands in a list: of the list put together, at a place, twice.
use Prim.Native.Nat.{ℕ, suc, zero, ◌+◌, ◌≤◌, ◌<◌}
use mathlib.Core.Path.{◌≡◌, refl, sym}
use mathlib.Core.List.{List, [], ◌∷◌, ◌++◌}
use native.Mathlib.Omega.{arith}
use lib.Dec.{eqb}
use lib.ListN.{length, get_or}
use borrow.Author.Tests.{eq-eqb, ne_eqb}
use Rattle.pack.specs.File.{one, count}

pub count_nil : (b : ℕ) → count b [] ≡ 0
unfolding count
count_nil b = refl

pub count_same : (b x : ℕ) (xs : List ℕ) → b ≡ x → count b (x ∷ xs) ≡ 1 + count b xs
unfolding count
count_same b x xs is = simp (eq-eqb b x is)

pub count_other : (b x : ℕ) (xs : List ℕ) → (b ≡ x → ⊥) → count b (x ∷ xs) ≡ count b xs
unfolding count
count_other b x xs other = simp (ne_eqb b x other) (omega arith)

pub count_one : (z b : ℕ) → count z (b ∷ []) ≡ one (eqb z b)
unfolding count
count_one z b = omega arith

pub count_append : (b : ℕ) (xs ys : List ℕ) → count b (xs ++ ys) ≡ count b xs + count b ys
unfolding count
count_append b [] ys = omega arith
count_append b (x ∷ xs) ys = omega (arith, count_append b xs ys)

pub count_more : (b x : ℕ) (xs : List ℕ) → count b xs ≤ count b (x ∷ xs)
unfolding count
count_more b x xs = omega arith

pub count_split : (b x : ℕ) (xs : List ℕ) → count b (x ∷ xs) ≡ count b (x ∷ []) + count b xs
unfolding count
count_split b x xs = omega arith

-- a number that stands at a place is counted, and twice where it stands at two
pub count_at : (xs : List ℕ) (p b : ℕ) → p < length xs → get_or xs p 0 ≡ b → 0 < count b xs
count_at [] p b inside is = absurd (omega arith)
count_at (x ∷ xs) zero b inside is = omega (arith, count_same b x xs (sym is))
count_at (x ∷ xs) (suc p) b inside is = omega (arith, count_at xs p b (omega arith) is, count_split b x xs)

pub count_two : (xs : List ℕ) (p q b : ℕ) → p < q → q < length xs → get_or xs p 0 ≡ b → get_or xs q 0 ≡ b → 2 ≤ count b xs
count_two [] p q b order inside is also = absurd (omega arith)
count_two (x ∷ xs) p zero b order inside is also = absurd (omega arith)
count_two (x ∷ xs) zero (suc q) b order inside is also = omega (arith, count_same b x xs (sym is), count_at xs q b (omega arith) also)
count_two (x ∷ xs) (suc p) (suc q) b order inside is also =
    omega (arith, count_two xs p q b (omega arith) (omega arith) is also, count_split b x xs)
