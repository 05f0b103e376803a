-- The bytes that CSI2 writes for the switches of a specification.
use Rattle.std.specs.Prelude.{ℕ, List, [], ◌∷◌, ◌++◌, length}
use Rattle.words.specs.Word.{word_bytes}
use Rattle.command_grammar.specs.Parsed.{Switch}
use Rattle.command_cursor.specs.FilledWord.{first_word, second_word}

-- "two words per value"
unfoldable pub value_words : List (List ℕ) → List ℕ
value_words [] = []
value_words (v ∷ vs) = first_word v ∷ (second_word v ∷ value_words vs)

-- "per switch a word with the number of values, two name words, two words per value"
abbrev pub switch_words : Switch → List ℕ
switch_words w = length w.values ∷ (first_word w.name ∷ (second_word w.name ∷ value_words w.values))

unfoldable pub all_switch_words : List Switch → List ℕ
all_switch_words [] = []
all_switch_words (w ∷ ws) = switch_words w ++ all_switch_words ws

-- "each word as two bytes, low first"
unfoldable pub encoded : List Switch → List ℕ
encoded ws = word_bytes (all_switch_words ws)
