-- Writing a command line: what is answered, the paper's numbers for it, and when. "41, ..; 53, ..; 52, ..; in that order" is that each case has those
-- before it against it.
use Rattle.std.specs.Prelude.{ℕ, ◌≤◌, ◌<◌, List, ◌++◌, length, drop}
use Rattle.answers.specs.declared.Answer.{Answer}
use Rattle.command_grammar.specs.Reading.{Reading}
use Rattle.command.specs.Condensed.{line_limit}
use Rattle.command_writing.specs.WrittenLine.{written}
use Rattle.command_writing.specs.Records.{Given}
use Rattle.command_writing.specs.Writing.{Writing, Written, NoReading, TooLong, NoRoom}

-- the code, and the number: the length of the line, 0 with a refusal
abbrev pub writing_answer : Writing → Answer
writing_answer (Written length) = record { code = 0; number = length }
writing_answer NoReading = record { code = 0o41; number = 0 }
writing_answer TooLong = record { code = 0o53; number = 0 }
writing_answer NoRoom = record { code = 0o52; number = 0 }

-- what is answered, and what the lent buffer then holds
pub data CsiWrite (outputs inputs : ℕ) (records buffer : List ℕ) : Writing → List ℕ → Type 0 where
  -- "41, a record that no reading gives, lengths aside"
  unread : ((reading : Reading) → Given outputs inputs records reading → ⊥) → CsiWrite outputs inputs records buffer NoReading buffer
  -- "53, line over its limit": it has no blanks, so its limit is that of a condensed line
  long : {reading : Reading} → Given outputs inputs records reading → line_limit < length (written reading)
      → CsiWrite outputs inputs records buffer TooLong buffer
  -- "52, buffer too short"
  short : {reading : Reading} → Given outputs inputs records reading → length (written reading) ≤ line_limit
      → length buffer < length (written reading) → CsiWrite outputs inputs records buffer NoRoom buffer
  -- "write the line"; the bytes behind it stay
  line : {reading : Reading} → Given outputs inputs records reading → length (written reading) ≤ line_limit
      → length (written reading) ≤ length buffer
      → CsiWrite outputs inputs records buffer (Written (length (written reading))) (written reading ++ drop (length (written reading)) buffer)

-- the same in the numbers that a host sees
pub data CsiWriteAnswered (outputs inputs : ℕ) (records buffer : List ℕ) : Answer → List ℕ → Type 0 where
  answered : {writing : Writing} {after : List ℕ} → CsiWrite outputs inputs records buffer writing after
      → CsiWriteAnswered outputs inputs records buffer (writing_answer writing) after
