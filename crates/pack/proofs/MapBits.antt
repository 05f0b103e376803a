-- The bits of a word: each read by halving, one made another, and the word from its bits.
use Prim.Native.Nat.{ℕ, suc, zero, ◌+◌, ◌-◌, ◌*◌, ◌/◌, ◌%◌, ◌^◌, ◌≤◌, ◌<◌}
use mathlib.Core.Path.{◌≡◌, refl, sym, ap, ◌∙◌}
use native.Mathlib.Omega.{arith}
use native.Mathlib.Nat.{pow-suc, pow-le-pow_right, mul_comm, div-div-eq-div-mul}
use Rattle.pack.specs.Map.{bit_of, with_bit}

-- bit 0, and bit i + 1, which is bit i of the half
pub bit_first : (word : ℕ) → bit_of word 0 ≡ word % 2
bit_first word = omega arith

halved : (word i : ℕ) → word / 2 ^ suc i ≡ (word / 2) / 2 ^ i
halved word i = ap (λ (n : ℕ). word / n) (pow-suc 2 i ∙ mul_comm (2 ^ i) 2) ∙ sym (div-div-eq-div-mul word 2 (2 ^ i))

pub bit_next : (word i : ℕ) → bit_of word (suc i) ≡ bit_of (word / 2) i
bit_next word i = ap (λ (n : ℕ). n % 2) (halved word i)

twice : (p q b : ℕ) → p ≡ q * 2 → p * b ≡ 2 * (q * b)
twice p q b is = ap (λ (n : ℕ). n * b) (is ∙ mul_comm q 2) ∙ again q b
  where
    again : (q b : ℕ) → 2 * q * b ≡ 2 * (q * b)
    again q b = omega arith

pow_twice : (i b : ℕ) → 2 ^ suc i * b ≡ 2 * (2 ^ i * b)
pow_twice i b = twice (2 ^ suc i) (2 ^ i) b (pow-suc 2 i)

-- a bit is in the word
pub bit_within : (word i : ℕ) → 2 ^ i * bit_of word i ≤ word
bit_within word zero = omega arith
bit_within word (suc i) =
    omega (arith, ap (λ (b : ℕ). 2 ^ suc i * b) (bit_next word i), pow_twice i (bit_of (word / 2) i), bit_within (word / 2) i)

-- a word with a bit made another, by halving
with_first : (word v : ℕ) → with_bit word 0 v ≡ word - word % 2 + v
unfolding with_bit
with_first word v = omega arith

with_next : (word i v : ℕ) → with_bit word (suc i) v ≡ 2 * with_bit (word / 2) i v + word % 2
unfolding with_bit
with_next word i v =
    let old : 2 ^ suc i * bit_of word (suc i) ≡ 2 * (2 ^ i * bit_of (word / 2) i) =
    ap (λ (b : ℕ). 2 ^ suc i * b) (bit_next word i) ∙ pow_twice i (bit_of (word / 2) i) in
    omega (arith, old, pow_twice i v, bit_within (word / 2) i)

half : (x word : ℕ) → (2 * x + word % 2) / 2 ≡ x
half x word = omega arith

-- the bit that was made v, and any other
pub bit_own : (word i v : ℕ) → v ≤ 1 → bit_of (with_bit word i v) i ≡ v
bit_own word zero v small = omega (arith, bit_first (with_bit word 0 v), with_first word v)
bit_own word (suc i) v small =
    bit_next (with_bit word (suc i) v) i
    ∙ ap (λ (n : ℕ). bit_of n i) (ap (λ (n : ℕ). n / 2) (with_next word i v) ∙ half (with_bit (word / 2) i v) word)
    ∙ bit_own (word / 2) i v small

pub bit_other : (word i j v : ℕ) → v ≤ 1 → (j ≡ i → ⊥) → bit_of (with_bit word i v) j ≡ bit_of word j
bit_other word zero zero v small other = absurd (other refl)
bit_other word zero (suc j) v small other =
    let same : with_bit word 0 v / 2 ≡ word / 2 = omega (arith, with_first word v) in
    bit_next (with_bit word 0 v) j ∙ ap (λ (n : ℕ). bit_of n j) same ∙ sym (bit_next word j)
bit_other word (suc i) zero v small other =
    omega (arith, bit_first (with_bit word (suc i) v), bit_first word, with_next word i v)
bit_other word (suc i) (suc j) v small other =
    bit_next (with_bit word (suc i) v) j
    ∙ ap (λ (n : ℕ). bit_of n j) (ap (λ (n : ℕ). n / 2) (with_next word i v) ∙ half (with_bit (word / 2) i v) word)
    ∙ bit_other (word / 2) i j v small (λ is. other (ap suc is)) ∙ sym (bit_next word j)

-- it stays a word of so many bits
pub with_small : (k word i v : ℕ) → i < k → word < 2 ^ k → v ≤ 1 → with_bit word i v < 2 ^ k
with_small zero word i v within few small = absurd (omega arith)
with_small (suc k) word zero v within few small = omega (arith, with_first word v, pow-suc 2 k)
with_small (suc k) word (suc i) v within few small =
    omega (arith, with_next word i v, pow-suc 2 k, with_small k (word / 2) i v (omega arith) (omega (arith, pow-suc 2 k)) small)

-- the same as the code shifts it: a bit shifted is in the word, and so is the sum a word
module _ (i v : ℕ) (within : i < 16) (small : v ≤ 1) where
  pub shift_bit : v * 2 ^ i % 18446744073709551616 ≡ 2 ^ i * v
  shift_bit = by v small
    where
      by : (v : ℕ) → v ≤ 1 → v * 2 ^ i % 18446744073709551616 ≡ 2 ^ i * v
      by zero few = omega arith
      by (suc zero) few = omega (arith, pow-le-pow_right {n = 2} (omega arith) within)
      by (suc (suc more)) few = absurd (omega arith)

module _ (word i v : ℕ) (within : i < 16) (few : word < 65536) (small : v ≤ 1) where
  pub shift_with : word - (word / 2 ^ i) % 2 * 2 ^ i % 18446744073709551616 + v * 2 ^ i % 18446744073709551616 ≡ with_bit word i v
  unfolding with_bit
  shift_with = omega (arith, shift_bit i ((word / 2 ^ i) % 2) within (omega arith), shift_bit i v within small)

  pub shift_word : with_bit word i v < 65536
  shift_word = with_small 16 word i v within few small
