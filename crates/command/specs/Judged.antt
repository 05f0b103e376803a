-- Means: what is found of a condensed line, and what becomes of it where there is room.
use Rattle.std.specs.Prelude.{ℕ, List, ◌++◌, length, drop, Result, Ok, Err, ⊤}
use Rattle.command_grammar.specs.Reading.{Reading, Reads, OverBound}
use Rattle.command_grammar.specs.LinePlace.{LinePlace}
use Rattle.command_sides.specs.declared.LineFault.{LineFault}
use Rattle.command_sides.specs.declared.LineFault.TheVariants as Fault
use Rattle.command.specs.Condensing.{Condensing}
use Rattle.command.specs.Condensing as C

-- whether the grammar writes a line, and its numbers keep their bounds; where the grammar does not, the place
pub data Judgement : Type 0 where
  Right : Judgement
  Wrong : ℕ → Judgement
  TooLarge : Judgement

-- an outcome of the code as that
abbrev pub judgement_in : Result ⊤ LineFault → Judgement
judgement_in (Ok nothing) = Right
judgement_in (Err (Fault.Misread place)) = Wrong place
judgement_in (Err Fault.TooLarge) = TooLarge

pub data Judged (line : List ℕ) : Judgement → Type 0 where
  right : {reading : Reading} → Reads line reading → Judged line Right
  wrong : {place : ℕ} → LinePlace line place → Judged line (Wrong place)
  large : OverBound line → Judged line TooLarge

pub data LineWritten (line buffer : List ℕ) : Condensing → List ℕ → Type 0 where
  wrong : {place : ℕ} → LinePlace line place → LineWritten line buffer (C.Wrong place) buffer
  large : OverBound line → LineWritten line buffer C.TooLarge buffer
  written : {reading : Reading} → Reads line reading → LineWritten line buffer (C.Accepted (length line)) (line ++ drop (length line) buffer)
