-- The free map of form 2 (document 02 §7). A form whose bodies follow the contents has none.
use Rattle.std.specs.Prelude.{ℕ, ◌+◌, ◌-◌, ◌*◌, ◌/◌, ◌%◌, ◌^◌, ◌<◌, cond, List, [], ◌∷◌, ltb}
use Rattle.words.specs.Word.{word_at, set_word}
use Rattle.pack.specs.declared.Geometry.{Geometry}
use Rattle.pack.specs.Geometry.{block_words, block_at}

-- "block c + 1 is a map": where the bodies do not begin there
abbrev pub HasMap : Geometry → Type 0
HasMap g = g.contents + 1 < g.bodies.0

-- its first word, and how many bits it has: the words of a block, of 16 bits
abbrev pub map_at : Geometry → ℕ
map_at g = block_at g (g.contents + 1)

abbrev pub map_bits : Geometry → ℕ
map_bits g = 16 * block_words g

-- bit i of a word
abbrev pub bit_of : ℕ → ℕ → ℕ
bit_of word i = (word / 2 ^ i) % 2

-- "block b is bit b mod 16 of word b / 16"
unfoldable pub map_bit : List ℕ → Geometry → ℕ → ℕ
map_bit img g b = bit_of (word_at img (map_at g + b / 16)) (b % 16)

-- a word with bit i made v: 2 ^ i times the old bit taken away, and 2 ^ i times the new one put there
unfoldable pub with_bit : ℕ → ℕ → ℕ → ℕ
with_bit word i v = word - 2 ^ i * bit_of word i + 2 ^ i * v

-- the image with the bit of block b made v; where there is no map, as it was
unfoldable pub bit_set : List ℕ → Geometry → ℕ → ℕ → List ℕ
bit_set img g b v =
    cond (ltb (g.contents + 1) g.bodies.0) (set_word img (map_at g + b / 16) (with_bit (word_at img (map_at g + b / 16)) (b % 16) v)) img

-- the bits of several blocks
unfoldable pub bits_set : List ℕ → Geometry → List ℕ → ℕ → List ℕ
bits_set img g [] v = img
bits_set img g (b ∷ bs) v = bits_set (bit_set img g b v) g bs v
