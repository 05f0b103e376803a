-- Means: the check of the map, bit by bit, as a test; proofs/MapTest.antt has that it is true exactly if the map has these bits, and that a word is judged by its sixteen bits.
use Rattle.std.specs.Prelude.{ℕ, suc, zero, ◌+◌, ◌*◌, ◌/◌, ◌%◌, ◌≤◌, ◌≡◌, Bool, true, cond, ◌&&◌, List, eqb, ltb, length, get_or}
use Rattle.pack.specs.declared.Geometry.{Geometry}
use Rattle.pack.specs.Map.{map_bits, map_bit}

-- the bits of `k` blocks from b on
unfoldable pub agree_from : List ℕ → Geometry → (ℕ → ℕ) → ℕ → ℕ → Bool
agree_from img g bit b zero = true
agree_from img g bit b (suc k) = eqb (map_bit img g b) (bit b) && agree_from img g bit (b + 1) k

-- all bits, where there is a map
abbrev pub map_length : Geometry → ℕ
map_length g = cond (ltb (g.contents + 1) g.bodies.0) (map_bits g) 0

unfoldable pub map_test : List ℕ → Geometry → (ℕ → ℕ) → Bool
map_test img g bit = agree_from img g bit 0 (map_length g)

-- the number whose bits, from bit 0 on, are those of `k` blocks from b on
unfoldable pub bits_from : (ℕ → ℕ) → ℕ → ℕ → ℕ
bits_from bit b zero = 0
bits_from bit b (suc k) = bit b + 2 * bits_from bit (b + 1) k

-- what a map of marks has at a place
unfoldable pub mark_on : List ℕ → ℕ → ℕ
mark_on marks b = get_or marks b 0

-- the same as a test of the bits of one word
unfoldable pub bits_agree : ℕ → (ℕ → ℕ) → ℕ → ℕ → Bool
bits_agree word bit b zero = true
bits_agree word bit b (suc k) = eqb (word % 2) (bit b) && bits_agree (word / 2) bit (b + 1) k

-- marks of so many blocks: none is held twice, from the last on there is none, and they are read sixteen at a time
pub record Marks (marks : List ℕ) (blocks : ℕ) : Type 0 where
  pub few : (b : ℕ) → mark_on marks b ≤ 1
  pub beyond : (b : ℕ) → blocks ≤ b → mark_on marks b ≡ 0
  pub whole : length marks % 16 ≡ 0
  pub enough : blocks ≤ length marks
