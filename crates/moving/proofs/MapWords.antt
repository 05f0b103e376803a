-- The words of a map and its bits: a word that is made of bits has them, and bits that are the same make the same word.
use Prim.Native.Nat.{ℕ, suc, zero, ◌+◌, ◌*◌, ◌/◌, ◌%◌, ◌^◌, ◌≤◌, ◌<◌}
use mathlib.Core.Path.{◌≡◌, sym, ap, ◌∙◌}
use mathlib.Core.List.{List}
use mathlib.Core.Logic.{◌⊎◌, inl, inr, ◌↔◌}
use native.Mathlib.Omega.{arith}
use native.Mathlib.Nat.{pow-suc}
use native.Mathlib.Decide.{ℕ_discrete, dec_lt}
use lib.Dec.{ltb}
use borrow.Author.Tests.{lt-ltb, le-ltb}
use Rattle.words.specs.Word.{word_at}
use Rattle.pack.specs.declared.Geometry.{Geometry}
use Rattle.pack.specs.File.{one}
use Rattle.pack.specs.Map.{map_at, bit_of, map_bit}
use Rattle.pack.proofs.MapBits.{bit_first, bit_next}
use Rattle.consistency.specs.MapTest.{bits_from}

-- a number of so many bits is small; sixteen make a word
bits_small : (bit : ℕ → ℕ) → ((i : ℕ) → bit i ≤ 1) → (b k : ℕ) → bits_from bit b k < 2 ^ k
unfolding bits_from
bits_small bit few b zero = omega arith
bits_small bit few b (suc k) = omega (arith, few b, bits_small bit few (b + 1) k, pow-suc 2 k)

pub word_fits : (bit : ℕ → ℕ) → ((i : ℕ) → bit i ≤ 1) → (b : ℕ) {word : ℕ} → word ≡ bits_from bit b 16 → word < 65536
word_fits bit few b is = omega (arith, is, bits_small bit few b 16)

-- bit i of the number that bits make
bits_at : (bit : ℕ → ℕ) → ((i : ℕ) → bit i ≤ 1) → (b k i : ℕ) → i < k → bit_of (bits_from bit b k) i ≡ bit (b + i)
unfolding bits_from
bits_at bit few b zero i inside = absurd (omega arith)
bits_at bit few b (suc k) zero inside =
    let here : b ≡ b + 0 = omega arith in
    omega (arith, bit_first (bit b + 2 * bits_from bit (b + 1) k), few b, ap bit here)
bits_at bit few b (suc k) (suc i) inside =
    let half : (bit b + 2 * bits_from bit (b + 1) k) / 2 ≡ bits_from bit (b + 1) k = omega (arith, few b) in
    let place : b + 1 + i ≡ b + suc i = omega arith in
    bit_next (bit b + 2 * bits_from bit (b + 1) k) i
    ∙ (ap (λ (n : ℕ). bit_of n i) half ∙ (bits_at bit few (b + 1) k i (omega arith) ∙ ap bit place))

-- a map with a word of these bits has the bit
pub map_bit_law : (img : List ℕ) (g : Geometry) (bit : ℕ → ℕ) → ((i : ℕ) → bit i ≤ 1) → (b : ℕ) → word_at img (map_at g + b / 16) ≡ bits_from bit (16 * (b / 16)) 16
    → map_bit img g b ≡ bit b
unfolding map_bit
map_bit_law img g bit few b word =
    let place : 16 * (b / 16) + b % 16 ≡ b = omega arith in
    ap (λ (n : ℕ). bit_of n (b % 16)) word ∙ (bits_at bit few (16 * (b / 16)) 16 (b % 16) (omega arith) ∙ ap bit place)

-- a number of k bits is told by them
word_told : (k a b : ℕ) → a < 2 ^ k → b < 2 ^ k → ((i : ℕ) → i < k → bit_of a i ≡ bit_of b i) → a ≡ b
word_told zero a b few few' same = omega arith
word_told (suc k) a b few few' same =
    let half : a / 2 ≡ b / 2 =
    word_told k (a / 2) (b / 2) (omega (arith, few, pow-suc 2 k)) (omega (arith, few', pow-suc 2 k))
    (λ i less. sym (bit_next a i) ∙ (same (suc i) (omega arith) ∙ bit_next b i)) in
    omega (arith, half, same 0 (omega arith), bit_first a, bit_first b)

-- two maps with the same bits have the same words
pub map_word : (img img' : List ℕ) (g : Geometry) (w : ℕ) → word_at img (map_at g + w) < 65536 → word_at img' (map_at g + w) < 65536
    → ((i : ℕ) → i < 16 → map_bit img g (16 * w + i) ≡ map_bit img' g (16 * w + i)) → word_at img (map_at g + w) ≡ word_at img' (map_at g + w)
unfolding map_bit
map_word img img' g w few few' same =
    word_told 16 (word_at img (map_at g + w)) (word_at img' (map_at g + w)) few few' (λ i less. sym (at img i less) ∙ (same i less ∙ at img' i less))
  where
    at : (img : List ℕ) (i : ℕ) → i < 16 → bit_of (word_at img (map_at g + (16 * w + i) / 16)) ((16 * w + i) % 16) ≡ bit_of (word_at img (map_at g + w)) i
    at img i less =
        let word : (16 * w + i) / 16 ≡ w = omega arith in
        let place : (16 * w + i) % 16 ≡ i = omega arith in
        ap (λ (v : ℕ). bit_of (word_at img (map_at g + v)) ((16 * w + i) % 16)) word ∙ ap (λ (j : ℕ). bit_of (word_at img (map_at g + w)) j) place

-- a bit that is 1 in the same cases is the same bit
pub bits_alike : (img img' : List ℕ) (g : Geometry) (b : ℕ) {A : Type 0} → (map_bit img g b ≡ 1) ↔ A → (map_bit img' g b ≡ 1) ↔ A → map_bit img g b ≡ map_bit img' g b
unfolding map_bit
bits_alike img img' g b here there = by (ℕ_discrete (map_bit img g b) 1) (ℕ_discrete (map_bit img' g b) 1)
  where
    by : Dec (map_bit img g b ≡ 1) → Dec (map_bit img' g b ≡ 1) → map_bit img g b ≡ map_bit img' g b
    by (yes is) d = is ∙ sym (there.1 (here.0 is))
    by (no not) (yes is) = absurd (not (here.1 (there.0 is)))
    by (no not) (no not₂) = omega (arith, not, not₂)

-- a mark is 1 where a block is one of the first, or held
pub mark_iff : (b first held mark : ℕ) → mark ≡ one (ltb b first) + held → mark ≤ 1 → (mark ≡ 1) ↔ ((b < first) ⊎ (0 < held))
mark_iff b first held mark is few = by (dec_lt b first)
  where
    by : Dec (b < first) → (mark ≡ 1) ↔ ((b < first) ⊎ (0 < held))
    by (yes own) = (λ marked. inl own, λ some. omega (arith, is, few, ap one (lt-ltb b first own)))
    by (no other) =
        let none = ap one (le-ltb b first (omega (arith, other))) in
        (λ marked. inr (omega (arith, is, none, marked)), λ some. omega (arith, is, none, few, held_some some))
      where
        held_some : (b < first) ⊎ (0 < held) → 0 < held
        held_some (inl own) = absurd (other own)
        held_some (inr some) = some
