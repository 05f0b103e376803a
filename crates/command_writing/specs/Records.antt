-- The records of a reading: "the specifications of one or both sides as CSI2 returns them". Our layout of them is one behind the other, the output side's first.
use Rattle.std.specs.Prelude.{ℕ, ◌≡◌, List, [], ◌∷◌, ◌++◌, length}
use Rattle.words.specs.Word.{word_bytes}
use Rattle.command_grammar.specs.Parsed.{Specification}
use Rattle.command_grammar.specs.Reading.{Reading, Reads, input_of}
use Rattle.command_parts.specs.declared.Numbers.{Numbers}
use Rattle.command_parts.specs.Numbers.{numbers_of}
use Rattle.command_switches.specs.Encoded.{encoded}

-- the nine numbers that CSI2 returns of a specification, in the order of its answer
abbrev pub record_words : Numbers → List ℕ
record_words n =
    n.present
    ∷ (n.device ∷ (n.unit ∷ (n.name1 ∷ (n.name2 ∷ (n.extension ∷ (n.group ∷ (n.user ∷ (n.switches ∷ []))))))))

-- these as words, low byte first, and behind them the bytes of the switches as CSI2 writes them
unfoldable pub record_of : Specification → List ℕ
record_of v = word_bytes (record_words (numbers_of v)) ++ encoded v.switches

unfoldable pub records_of : List Specification → List ℕ
records_of [] = []
records_of (v ∷ vs) = record_of v ++ records_of vs

-- how many specifications each side of the reading has, 0 for an input side that is not there, and the records of them all
pub record Gives (reading : Reading) (outputs inputs : ℕ) (records : List ℕ) : Type 0 where
  pub output : length reading.output ≡ outputs
  pub input : length (input_of reading.input) ≡ inputs
  pub bytes : records_of reading.output ++ records_of (input_of reading.input) ≡ records

-- "a record that no reading gives, lengths aside" is the negation: some line, of any length, has a reading that gives these
pub record Given (outputs inputs : ℕ) (records : List ℕ) (reading : Reading) : Type 0 where
  pub line : List ℕ
  pub reads : Reads line reading
  pub gives : Gives reading outputs inputs records
