-- What is promised of reading and writing together: of what a host counts and keeps who asks a line, and of the line that is written of it.
use Rattle.std.specs.Prelude.{ℕ, ◌≤◌, ◌≡◌, List, length, take}
use Rattle.answers.specs.declared.Answer.{Answer}
use Rattle.command_grammar.specs.Reading.{Reading, Reads}
use Rattle.command.specs.Condensed.{line_limit}
use Rattle.command.specs.Csi1.{Csi1Answered}
use Rattle.command_writing.specs.AskedRecords.{RecordsAsked}

-- who asks the line for the specifications of both sides counts and keeps these
pub record AskedAs (line : List ℕ) (outputs inputs : ℕ) (output input : List ℕ) : Type 0 where
  -- with 384 bytes for each answer the asking ends
  pub output_ends : (lent : ℕ → List ℕ) → ((k : ℕ) → 384 ≤ length (lent k)) → RecordsAsked line 0 lent 0 outputs output
  pub input_ends : (lent : ℕ → List ℕ) → ((k : ℕ) → 384 ≤ length (lent k)) → RecordsAsked line 1 lent 0 inputs input
  -- with whatever buffers it ends, it ends so
  pub output_only : (lent : ℕ → List ℕ) (count : ℕ) (records : List ℕ) → RecordsAsked line 0 lent 0 count records → (count ≡ outputs) × (records ≡ output)
  pub input_only : (lent : ℕ → List ℕ) (count : ℕ) (records : List ℕ) → RecordsAsked line 1 lent 0 count records → (count ≡ inputs) × (records ≡ input)

-- this was answered, and left in the buffer, when the line was written of what `line` was asked
pub record WrittenBack (line : List ℕ) (outputs inputs : ℕ) (output input : List ℕ) (answer : Answer) (after : List ℕ) : Type 0 where
  -- neither 41 nor 53 nor 52
  pub code : answer.code ≡ 0
  -- in no more characters than the line had
  pub short : answer.number ≤ length line
  -- "Reading what was written gives the same specifications": the line that was written has the reading,
  pub same : (reading : Reading) → Reads line reading → Reads (take answer.number after) reading
  -- CSI1 accepts it, and as it stands,
  pub accepted : (buffer : List ℕ) → line_limit ≤ length buffer → (again : Answer) (left : List ℕ) → Csi1Answered (take answer.number after) buffer again left
      → (again.code ≡ 0) × (take again.number left ≡ take answer.number after)
  -- and asked by CSI2 it yields the same counts and records
  pub asked : AskedAs (take answer.number after) outputs inputs output input
