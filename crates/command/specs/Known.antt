-- What a host gets who asks CSI2 for the specifications of a side at k = 0, 1, .. up to the first 51, and decodes the switches.
use Rattle.std.specs.Prelude.{ℕ, zero, suc, ◌+◌, ◌*◌, ◌≡◌, List, [], ◌∷◌, drop}
use Rattle.command_grammar.specs.Parsed.{Switch, Specification}
use Rattle.command_cursor.specs.FilledWord.{first_word, second_word}
use Rattle.words.specs.Word.{word_at}
use Rattle.command_parts.specs.Numbers.{numbers_of}
use Rattle.command.specs.Csi2.{asking_answer, Csi2Answered}
use Rattle.command.specs.declared.csi2.SpecificationAnswer.{SpecificationAnswer}
use Rattle.command.specs.Asking as A

-- a name, or a value, of up to 6 characters is two words
pub record Pair : Type 0 where
  pub first : ℕ
  pub second : ℕ

pub record DecodedSwitch : Type 0 where
  pub name : Pair
  pub values : List Pair

-- words i and i + 1
abbrev pub pair_at : ℕ → List ℕ → Pair
pair_at i bytes = record { first = word_at bytes i; second = word_at bytes (i + 1) }

-- "two words per value", each two bytes
unfoldable pub decoded_values : ℕ → List ℕ → List Pair
decoded_values zero bytes = []
decoded_values (suc count) bytes = pair_at 0 bytes ∷ decoded_values count (drop 4 bytes)

-- "per switch a word with the number of values, two name words, two words per value"; the switch count is among the numbers of the answer
unfoldable pub decoded : ℕ → List ℕ → List DecodedSwitch
unfolding decoded_values
decoded zero bytes = []
decoded (suc count) bytes =
    record { name = pair_at 1 bytes; values = decoded_values (word_at bytes 0) (drop 6 bytes) }
    ∷ decoded count (drop (4 * word_at bytes 0) (drop 6 bytes))

-- the same made from the switch itself: its name and its values in words
abbrev pub pair_of : List ℕ → Pair
pair_of name = record { first = first_word name; second = second_word name }

unfoldable pub value_numbers : List (List ℕ) → List Pair
value_numbers [] = []
value_numbers (v ∷ vs) = pair_of v ∷ value_numbers vs

unfoldable pub switch_numbers : List Switch → List DecodedSwitch
unfolding value_numbers
switch_numbers [] = []
switch_numbers (w ∷ ws) = record { name = pair_of w.name; values = value_numbers w.values } ∷ switch_numbers ws

-- what a host knows of a specification: the answer, and its switches
pub record Known : Type 0 where
  pub answer : SpecificationAnswer
  pub switches : List DecodedSwitch

-- what there is to know of the specifications of a side: the answer of each has code 0 and its numbers
unfoldable pub known_of : List Specification → List Known
unfolding switch_numbers
known_of [] = []
known_of (v ∷ vs) = record { answer = asking_answer (A.Given (numbers_of v)); switches = switch_numbers v.switches } ∷ known_of vs

-- what a host knows who asks at k, k + 1, .. with the buffers that it lends, decodes the switches of each answer, and stops at the first 51
pub data AskedFrom (line : List ℕ) (side : ℕ) (lent : ℕ → List ℕ) : ℕ → List Known → Type 0 where
  stops : {k : ℕ} {answer : SpecificationAnswer} {after : List ℕ} → Csi2Answered line side k (lent k) answer after → answer.code ≡ 0o51
      → AskedFrom line side lent k []
  goes : {k : ℕ} {answer : SpecificationAnswer} {after : List ℕ} {rest : List Known} → Csi2Answered line side k (lent k) answer after → answer.code ≡ 0
      → AskedFrom line side lent (suc k) rest
      → AskedFrom line side lent k (record { answer = answer; switches = decoded answer.numbers.switches after } ∷ rest)
