-- What writing a line answers, as the laws have it: the length of the line, or why it is refused.
use Rattle.std.specs.Prelude.{ℕ, Result, Ok, Err}
use Rattle.command_writing.specs.declared.WritingError.{WritingError}
use Rattle.command_writing.specs.declared.WritingError.TheVariants as E

pub data Writing : Type 0 where
  Written : ℕ → Writing
  NoReading : Writing
  TooLong : Writing
  NoRoom : Writing

-- an outcome of the code as that
abbrev pub writing_in : Result ℕ WritingError → Writing
writing_in (Ok length) = Written length
writing_in (Err E.NoReading) = NoReading
writing_in (Err E.TooLong) = TooLong
writing_in (Err E.NoRoom) = NoRoom
