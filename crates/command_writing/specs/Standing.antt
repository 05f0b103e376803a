-- Means: records as words, and what stands at a word of them: how far it goes, and that nothing else that stands there goes another way.
use Rattle.std.specs.Prelude.{ℕ, ◌+◌, ◌*◌, ◌≤◌, ◌≡◌, List, [], ◌∷◌, ◌++◌, length, drop}
use Rattle.command_grammar.specs.Parsed.{Specification}
use Rattle.command_grammar.specs.Reading.{input_of, Reading}
use Rattle.command_parts.specs.Numbers.{numbers_of}
use Rattle.command_switches.specs.Encoded.{all_switch_words}
use Rattle.command_cursor.specs.FilledWord.{first_word, second_word}
use Rattle.command_writing.specs.Records.{record_words}

-- the words of bytes, a last byte alone left out
unfoldable pub words_in : List ℕ → List ℕ
words_in [] = []
words_in (low ∷ []) = []
words_in (low ∷ (high ∷ bytes)) = (low + 256 * high) ∷ words_in bytes

-- so many words stand from a word on
pub record Room (bytes : List ℕ) (at many : ℕ) : Type 0 where
  pub fits : at + many ≤ length (words_in bytes)
  pub few : at + many ≤ length bytes

-- the words, or the characters, of a list
unfoldable pub joined : {A : Type 0} → (A → List ℕ) → List A → List ℕ
joined f [] = []
joined f (v ∷ vs) = f v ++ joined f vs

abbrev pub name_words : List ℕ → List ℕ
name_words name = first_word name ∷ (second_word name ∷ [])

unfoldable pub specification_words : Specification → List ℕ
specification_words v = record_words (numbers_of v) ++ all_switch_words v.switches

unfoldable pub reading_words : Reading → List ℕ
reading_words reading = joined specification_words reading.output ++ joined specification_words (input_of reading.input)

-- v stands from word `at` to word `end`; whatever stands there ends there
pub record Taken {A : Type 0} (Says : A → Type 0) (words : A → List ℕ) (records : List ℕ) (at : ℕ) (v : A) (end : ℕ) : Type 0 where
  pub says : Says v
  pub stands : drop at records ≡ words v ++ drop end records
  pub within : end ≤ length records
  pub only : (other : A) (rest : List ℕ) → Says other → drop at records ≡ words other ++ rest → rest ≡ drop end records

-- nothing stands there
pub record Never {A : Type 0} (Says : A → Type 0) (words : A → List ℕ) (records : List ℕ) (at : ℕ) : Type 0 where
  pub never : (v : A) (rest : List ℕ) → Says v → drop at records ≡ words v ++ rest → ⊥
