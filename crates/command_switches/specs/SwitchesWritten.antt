-- Means: what the parts of the writer ask and promise: words set one after another, from word i of the buffer on.
use Rattle.std.specs.Prelude.{ℕ, ◌+◌, ◌*◌, ◌≤◌, ◌≡◌, List, [], ◌∷◌, length, take, drop}
use Rattle.words.specs.Word.{set_word}
use Rattle.radix.specs.Names.{is_letter_or_digit}
use Rattle.command_grammar.specs.LineCharacters.{colon, slash}
use Rattle.command_grammar.specs.Parsed.{Switch}
use Rattle.command_grammar.specs.Reader.{is, ok, span, many, switch_value, switch, mk_switch, from}
use Rattle.command_cursor.specs.FilledWord.{first_word, second_word}
use Rattle.command_switches.specs.Encoded.{value_words, switch_words, all_switch_words, encoded}
use Rattle.command_switches.specs.declared.WrittenValues.{WrittenValues}

unfoldable pub set_words : List ℕ → ℕ → List ℕ → List ℕ
set_words bytes i [] = bytes
set_words bytes i (word ∷ words) = set_words (set_word bytes i word) (i + 1) words

-- the name or value of up to 6 characters that stands at a place, and the place behind it
unfoldable pub name_at : List ℕ → ℕ → List ℕ
name_at line at = take (span is_letter_or_digit 6 (drop at line)) (drop at line)

unfoldable pub behind_name : List ℕ → ℕ → ℕ
behind_name line at = at + span is_letter_or_digit 6 (drop at line)

abbrev pub name_words : List ℕ → List ℕ
name_words name = first_word name ∷ (second_word name ∷ [])

-- values stand at a place, and there is room for their words
pub record ValuesFit (line : List ℕ) (at i room : ℕ) : Type 0 where
  pub values : List (List ℕ)
  pub end : ℕ
  pub stand : from (many (is colon) switch_value) line at ≡ ok values end
  pub fits : 2 * (i + 2 * length values) ≤ room

-- `count` values stood before these; a line has as many characters as values, or more
pub record ValuesWritten (line : List ℕ) (at i count : ℕ) (before : List ℕ) (r : WrittenValues) (after : List ℕ) : Type 0 where
  pub done : (values : List (List ℕ)) (end : ℕ) → from (many (is colon) switch_value) line at ≡ ok values end
      → (after ≡ set_words before i (value_words values)) × (r.values ≡ count + length values) × (r.next.at ≡ end)
  pub few : r.values ≤ r.next.at
  pub within : r.next.at ≤ length line

-- the name of the switch stands at a place, its values behind it
pub record SwitchWritten (line : List ℕ) (at i : ℕ) (before : List ℕ) (r : WrittenValues) (after : List ℕ) : Type 0 where
  pub done : (values : List (List ℕ)) (end : ℕ) → from (many (is colon) switch_value) line (behind_name line at) ≡ ok values end
      → (after ≡ set_words before i (switch_words (mk_switch (name_at line at) values))) × (r.values ≡ length values) × (r.next.at ≡ end)

-- switches stand at a place, and there is room for their words
pub record SwitchesFit (line : List ℕ) (at i room : ℕ) : Type 0 where
  pub switches : List Switch
  pub end : ℕ
  pub stand : from (many (is slash) switch) line at ≡ ok switches end
  pub fits : 2 * (i + length (all_switch_words switches)) ≤ room
  pub short : length line ≤ 65535

-- `count` switches stood before these
pub record SwitchesWritten (line : List ℕ) (at i count : ℕ) (before : List ℕ) (r : ℕ) (after : List ℕ) : Type 0 where
  pub done : (switches : List Switch) (end : ℕ) → from (many (is slash) switch) line at ≡ ok switches end
      → (after ≡ set_words before i (all_switch_words switches)) × (r ≡ count + length switches)

-- What the writing of switches counts on: they stand at a place of the line, and there is room for their bytes.
-- A value takes two characters or more, so that in a line of up to 65535 the number of values is a word.
pub record SwitchesWritable (line : List ℕ) (at : ℕ) (room : ℕ) : Type 0 where
  pub switches : List Switch
  pub end : ℕ
  pub stand : from (many (is slash) switch) line at ≡ ok switches end
  pub fits : length (encoded switches) ≤ room
  pub short : length line ≤ 65535
