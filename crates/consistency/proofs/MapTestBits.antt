-- The number that bits make: eight are laid together, twice eight are a word, and none is 0.
use Prim.Native.Nat.{ℕ, suc, zero, ◌+◌, ◌*◌, ◌/◌, ◌%◌, ◌≤◌}
use mathlib.Core.Path.{◌≡◌, refl, sym, ap, ◌∙◌}
use mathlib.Core.List.{List}
use native.Mathlib.Omega.{arith}
use Rattle.consistency.specs.EightBytes.{eight_at}
use Rattle.consistency.specs.MapTest.{bits_from, mark_on, Marks}
use Rattle.consistency.proofs.EightBytes.{laid_eight, laid_small}

pub bits_nothing : (bit : ℕ → ℕ) (b k : ℕ) → ((i : ℕ) → b ≤ i → bit i ≡ 0) → 0 ≡ bits_from bit b k
unfolding bits_from
bits_nothing bit b zero none = refl
bits_nothing bit b (suc k) none = omega (arith, none b (omega arith), bits_nothing bit (b + 1) k (λ i low. none i (omega arith)))

-- the first bit, and the others from the next place on
front : (bit : ℕ → ℕ) (b k next : ℕ) → next ≡ b + 1 → bits_from bit b (suc k) ≡ bit b + 2 * bits_from bit next k
unfolding bits_from
front bit b k next is = omega (arith, ap (λ (n : ℕ). bits_from bit n k) is)

no_bits : (bit : ℕ → ℕ) (b : ℕ) → bits_from bit b 0 ≡ 0
unfolding bits_from
no_bits bit b = refl

-- eight of them, as they are read of a map of marks and laid together
module _ (bit : ℕ → ℕ) (b : ℕ) where
  pub bits_eight : bits_from bit b 8
      ≡ bit b + 2 * bit (b + 1) + 4 * bit (b + 2) + 8 * bit (b + 3) + 16 * bit (b + 4) + 32 * bit (b + 5) + 64 * bit (b + 6) + 128 * bit (b + 7)
  bits_eight =
      omega (
        arith,
        front bit b 7 (b + 1) (omega arith),
        front bit (b + 1) 6 (b + 2) (omega arith),
        front bit (b + 2) 5 (b + 3) (omega arith),
        front bit (b + 3) 4 (b + 4) (omega arith),
        front bit (b + 4) 3 (b + 5) (omega arith),
        front bit (b + 5) 2 (b + 6) (omega arith),
        front bit (b + 6) 1 (b + 7) (omega arith),
        front bit (b + 7) 0 (b + 8) (omega arith),
        no_bits bit (b + 8),
      )

  pub bits_sixteen : bits_from bit b 8 + 256 * bits_from bit (b + 8) 8 ≡ bits_from bit b 16
  bits_sixteen =
      omega (
        arith,
        bits_eight,
        front bit b 15 (b + 1) (omega arith),
        front bit (b + 1) 14 (b + 2) (omega arith),
        front bit (b + 2) 13 (b + 3) (omega arith),
        front bit (b + 3) 12 (b + 4) (omega arith),
        front bit (b + 4) 11 (b + 5) (omega arith),
        front bit (b + 5) 10 (b + 6) (omega arith),
        front bit (b + 6) 9 (b + 7) (omega arith),
        front bit (b + 7) 8 (b + 8) (omega arith),
      )

module _ (marks : List ℕ) (few : (i : ℕ) → mark_on marks i ≤ 1) (b : ℕ) {spread : ℕ} (read : spread ≡ eight_at marks b) where
  pub spread_small : spread ≤ 72340172838076673
  unfolding mark_on eight_at
  spread_small = laid_small (few b) (few (b + 1)) (few (b + 2)) (few (b + 3)) (few (b + 4)) (few (b + 5)) (few (b + 6)) (few (b + 7)) read

  byte_read : {two four : ℕ} → two ≡ spread + spread / 128 → four ≡ two + two / 16384 → (four + four / 268435456) % 256
      ≡ mark_on marks b + 2 * mark_on marks (b + 1) + 4 * mark_on marks (b + 2) + 8 * mark_on marks (b + 3)
      + 16 * mark_on marks (b + 4) + 32 * mark_on marks (b + 5) + 64 * mark_on marks (b + 6) + 128 * mark_on marks (b + 7)
  unfolding mark_on eight_at
  byte_read = laid_eight (few b) (few (b + 1)) (few (b + 2)) (few (b + 3)) (few (b + 4)) (few (b + 5)) (few (b + 6)) (few (b + 7)) read

  pub byte_made : {two four : ℕ} → two ≡ spread + spread / 128 → four ≡ two + two / 16384 → (four + four / 268435456) % 256 ≡ bits_from (mark_on marks) b 8
  byte_made made made₂ = byte_read made made₂ ∙ sym (bits_eight (mark_on marks) b)

-- the marks of the sixteen blocks of word w
module _ {marks : List ℕ} {blocks : ℕ} (m : Marks marks blocks) (w : ℕ) where
  pub word_beyond : blocks ≤ 16 * w → 0 ≡ bits_from (mark_on marks) (16 * w) 16
  word_beyond past = bits_nothing (mark_on marks) (16 * w) 16 (λ i low. m.beyond i (omega arith))
