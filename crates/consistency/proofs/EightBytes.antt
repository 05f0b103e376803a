-- Eight bytes as one number: the code's shifts make it, and the marks of eight blocks in it are laid together as bits.
use Prim.Native.Nat.{ℕ, ◌+◌, ◌*◌, ◌/◌, ◌%◌, ◌^◌, ◌≤◌, ◌<◌}
use mathlib.Core.Path.{◌≡◌, ap, ◌∙◌}
use native.Mathlib.Omega.{arith}
use lib.Bits.{bit_or, or_shifted_r}
use Rattle.consistency.specs.EightBytes.{joined}

-- a number laid above another
above : (k low high : ℕ) → low < 2 ^ k → high * 2 ^ k < 18446744073709551616 → bit_or low (high * 2 ^ k % 18446744073709551616) ≡ low + high * 2 ^ k
above k low high fits small =
    let whole : high * 2 ^ k % 18446744073709551616 ≡ high * 2 ^ k = omega (arith, small) in
    ap (bit_or low) whole ∙ or_shifted_r high k low fits ∙ omega arith

module _ {b₀ b₁ b₂ b₃ b₄ b₅ b₆ b₇ : ℕ}
    (s₀ : b₀ < 256) (s₁ : b₁ < 256) (s₂ : b₂ < 256) (s₃ : b₃ < 256) (s₄ : b₄ < 256) (s₅ : b₅ < 256) (s₆ : b₆ < 256) (s₇ : b₇ < 256) where
  pub bytes_joined : bit_or
      (bit_or (bit_or (bit_or (bit_or (bit_or (bit_or b₀ (b₁ * 256 % 18446744073709551616)) (b₂ * 65536 % 18446744073709551616)) (b₃ * 16777216 % 18446744073709551616))
      (b₄ * 4294967296 % 18446744073709551616)) (b₅ * 1099511627776 % 18446744073709551616)) (b₆ * 281474976710656 % 18446744073709551616))
      (b₇ * 72057594037927936 % 18446744073709551616)
      ≡ joined b₀ b₁ b₂ b₃ b₄ b₅ b₆ b₇
  bytes_joined =
      rw (
        above 8 (b₀) b₁ (omega (arith, s₀)) (omega (arith, s₁)),
        above 16 (b₀ + b₁ * 256) b₂ (omega (arith, s₀, s₁)) (omega (arith, s₂)),
        above 24 (b₀ + b₁ * 256 + b₂ * 65536) b₃ (omega (arith, s₀, s₁, s₂)) (omega (arith, s₃)),
        above 32 (b₀ + b₁ * 256 + b₂ * 65536 + b₃ * 16777216) b₄ (omega (arith, s₀, s₁, s₂, s₃)) (omega (arith, s₄)),
        above 40 (b₀ + b₁ * 256 + b₂ * 65536 + b₃ * 16777216 + b₄ * 4294967296) b₅ (omega (arith, s₀, s₁, s₂, s₃, s₄)) (omega (arith, s₅)),
        above 48 (b₀ + b₁ * 256 + b₂ * 65536 + b₃ * 16777216 + b₄ * 4294967296 + b₅ * 1099511627776) b₆ (omega (arith, s₀, s₁, s₂, s₃, s₄, s₅))
            (omega (arith, s₆)),
        above 56 (b₀ + b₁ * 256 + b₂ * 65536 + b₃ * 16777216 + b₄ * 4294967296 + b₅ * 1099511627776 + b₆ * 281474976710656) b₇
            (omega (arith, s₀, s₁, s₂, s₃, s₄, s₅, s₆)) (omega (arith, s₇)),
      )
      (omega arith)

-- what stands above some bytes, brought down beside them
down_one : (low rest all : ℕ) → low < 128 → all ≡ low + 256 * rest → all / 128 ≡ 2 * rest
down_one low rest all small is = omega (arith, small, is)

down_two : (low rest all : ℕ) → low < 16384 → all ≡ low + 65536 * rest → all / 16384 ≡ 4 * rest
down_two low rest all small is = omega (arith, small, is)

down_four : (low rest all : ℕ) → low < 268435456 → all ≡ low + 4294967296 * rest → all / 268435456 ≡ 16 * rest
down_four low rest all small is = omega (arith, small, is)

-- eight bytes of at most 1, then of at most 3, then of at most 15: each with what stands above it
laid_two : (m₀ m₁ m₂ m₃ m₄ m₅ m₆ m₇ : ℕ) {spread : ℕ} → m₀ ≤ 1 → spread ≡ joined m₀ m₁ m₂ m₃ m₄ m₅ m₆ m₇
    → spread + spread / 128 ≡ joined (m₀ + 2 * m₁) (m₁ + 2 * m₂) (m₂ + 2 * m₃) (m₃ + 2 * m₄) (m₄ + 2 * m₅) (m₅ + 2 * m₆) (m₆ + 2 * m₇) m₇
laid_two m₀ m₁ m₂ m₃ m₄ m₅ m₆ m₇ {spread} small is =
    omega (
      arith,
      is,
      down_one m₀ (m₁ + 256 * m₂ + 65536 * m₃ + 16777216 * m₄ + 4294967296 * m₅ + 1099511627776 * m₆ + 281474976710656 * m₇) spread
          (omega (arith, small)) (omega (arith, is)),
    )

laid_four : (m₀ m₁ m₂ m₃ m₄ m₅ m₆ m₇ : ℕ) {two : ℕ} → m₀ ≤ 3 → m₁ ≤ 3 → two ≡ joined m₀ m₁ m₂ m₃ m₄ m₅ m₆ m₇
    → two + two / 16384 ≡ joined (m₀ + 4 * m₂) (m₁ + 4 * m₃) (m₂ + 4 * m₄) (m₃ + 4 * m₅) (m₄ + 4 * m₆) (m₅ + 4 * m₇) m₆ m₇
laid_four m₀ m₁ m₂ m₃ m₄ m₅ m₆ m₇ {two} small small₁ is =
    omega (
      arith,
      is,
      down_two (m₀ + 256 * m₁) (m₂ + 256 * m₃ + 65536 * m₄ + 16777216 * m₅ + 4294967296 * m₆ + 1099511627776 * m₇) two
          (omega (arith, small, small₁)) (omega (arith, is)),
    )

laid_last : (m₀ m₁ m₂ m₃ m₄ m₅ m₆ m₇ : ℕ) {four : ℕ} → m₀ ≤ 15 → m₁ ≤ 15 → m₂ ≤ 15 → m₃ ≤ 15 → m₄ ≤ 15 → four ≡ joined m₀
    m₁ m₂ m₃ m₄ m₅ m₆ m₇
    → (four + four / 268435456) % 256 ≡ m₀ + 16 * m₄
laid_last m₀ m₁ m₂ m₃ m₄ m₅ m₆ m₇ {four} small small₁ small₂ small₃ small₄ is =
    let low : m₀ + 256 * m₁ + 65536 * m₂ + 16777216 * m₃ < 268435456 = omega (arith, small, small₁, small₂, small₃) in
    lowest (m₀ + 16 * m₄)
    (m₁ + 256 * m₂ + 65536 * m₃ + 16777216 * m₄ + 4294967296 * m₅ + 1099511627776 * m₆ + 281474976710656 * m₇ + 16 * (m₅ + 256 * m₆ + 65536 * m₇))
    (omega (arith, small, small₄))
    (omega (arith, is, down_four (m₀ + 256 * m₁ + 65536 * m₂ + 16777216 * m₃) (m₄ + 256 * m₅ + 65536 * m₆ + 16777216 * m₇) four low (omega (arith, is))))
  where
    lowest : (byte rest : ℕ) → byte < 256 → {all : ℕ} → all ≡ byte + 256 * rest → all % 256 ≡ byte
    lowest byte rest few made = omega (arith, few, made)

-- eight marks of 0 or 1, a byte each, as eight bits
module _ {m₀ m₁ m₂ m₃ m₄ m₅ m₆ m₇ : ℕ}
    (s₀ : m₀ ≤ 1) (s₁ : m₁ ≤ 1) (s₂ : m₂ ≤ 1) (s₃ : m₃ ≤ 1) (s₄ : m₄ ≤ 1) (s₅ : m₅ ≤ 1) (s₆ : m₆ ≤ 1) (s₇ : m₇ ≤ 1)
    {spread : ℕ} (is : spread ≡ joined m₀ m₁ m₂ m₃ m₄ m₅ m₆ m₇) where
  pub laid_eight : {two four : ℕ} → two ≡ spread + spread / 128 → four ≡ two + two / 16384
      → (four + four / 268435456) % 256 ≡ m₀ + 2 * m₁ + 4 * m₂ + 8 * m₃ + 16 * m₄ + 32 * m₅ + 64 * m₆ + 128 * m₇
  laid_eight {two} {four} made made₂ =
      laid_last _ _ _ _ _ _ _ _ (upto s₀ s₁ s₂ s₃) (upto s₁ s₂ s₃ s₄) (upto s₂ s₃ s₄ s₅) (upto s₃ s₄ s₅ s₆) (upto s₄ s₅ s₆ s₇)
      (made₂ ∙ laid_four _ _ _ _ _ _ _ _ (pair s₀ s₁) (pair s₁ s₂) (made ∙ laid_two _ _ _ _ _ _ _ _ s₀ is))
      ∙ omega arith
    where
      pair : {a b : ℕ} → a ≤ 1 → b ≤ 1 → a + 2 * b ≤ 3
      pair x y = omega (arith, x, y)

      upto : {a b c d : ℕ} → a ≤ 1 → b ≤ 1 → c ≤ 1 → d ≤ 1 → a + 2 * b + 4 * (c + 2 * d) ≤ 15
      upto x y z w = omega (arith, x, y, z, w)

  pub laid_small : spread ≤ 72340172838076673
  laid_small = omega (arith, is, s₀, s₁, s₂, s₃, s₄, s₅, s₆, s₇)
