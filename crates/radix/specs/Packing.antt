-- Radix-50 words: three characters to a word.
use Rattle.std.specs.Prelude.{ℕ, ◌+◌, ◌*◌, ◌/◌, ◌%◌, ◌≤◌, List, [], ◌∷◌, ◌≡◌, ◌⊎◌}
use Rattle.std.proofs.Math.Option.{Option, none, some}
use Rattle.radix.specs.Characters.{code_of, character_of}

-- "A word is 1600a + 40b + c."
abbrev pub packed : ℕ → ℕ → ℕ → ℕ
packed a b c = 1600 * a + 40 * b + c

-- the word of three codes, if all three exist
abbrev pub packed_if : Option ℕ → Option ℕ → Option ℕ → Option ℕ
packed_if (some a) (some b) (some c) = some (packed a b c)
packed_if (some a) (some b) none = none
packed_if (some a) none c = none
packed_if none b c = none

-- the word of three characters, if each has a code
unfoldable pub word_of : List ℕ → Option ℕ
word_of [] = none
word_of (x ∷ []) = none
word_of (x ∷ (y ∷ [])) = none
word_of (x ∷ (y ∷ (z ∷ []))) = packed_if (code_of x) (code_of y) (code_of z)
word_of (x ∷ (y ∷ (z ∷ (u ∷ rest)))) = none

-- three characters, if all three exist
abbrev pub three_if : Option ℕ → Option ℕ → Option ℕ → Option (List ℕ)
three_if (some x) (some y) (some z) = some (x ∷ (y ∷ (z ∷ [])))
three_if (some x) (some y) none = none
three_if (some x) none z = none
three_if none y z = none

-- the first number that is no word of three codes below 40: "RADUP refuses a word with 29 or from 64000 up" (proofs/Packing.antt, `unpacking_refused`)
abbrev pub upper_end : ℕ
upper_end = 64000

-- the codes of a word: a, b, c of 1600a + 40b + c; a is 40 or more in a number from 64000 up
abbrev pub first_code : ℕ → ℕ
first_code word = word / 1600

abbrev pub second_code : ℕ → ℕ
second_code word = (word / 40) % 40

abbrev pub third_code : ℕ → ℕ
third_code word = word % 40

-- the three characters of a word, if each of its codes has one
unfoldable pub characters_of : ℕ → Option (List ℕ)
characters_of word = three_if (character_of (first_code word)) (character_of (second_code word)) (character_of (third_code word))

-- "RADUP refuses a word with 29 or from 64000 up", and no other.
abbrev pub NoCharacters : ℕ → Type 0
NoCharacters w = (upper_end ≤ w) ⊎ ((first_code w ≡ 29) ⊎ ((second_code w ≡ 29) ⊎ (third_code w ≡ 29)))
