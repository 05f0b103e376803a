-- What CSI2 answers, as the laws have it: the numbers of a specification, or why it is refused.
use Rattle.std.specs.Prelude.{ℕ, Result, Ok, Err}
use Rattle.command_parts.specs.declared.Numbers.{Numbers}
use Rattle.command_sides.specs.declared.LineFault.{LineFault}
use Rattle.command_sides.specs.declared.LineFault.TheVariants as Fault
use Rattle.command.specs.declared.csi2.AskingError.{AskingError}
use Rattle.command.specs.declared.csi2.AskingError.TheVariants as E

pub data Asking : Type 0 where
  Given : Numbers → Asking
  TooLong : Asking
  Wrong : ℕ → Asking
  TooLarge : Asking
  Missing : Asking
  NoRoom : Asking

-- an outcome of the code as that
abbrev pub asking_in : Result Numbers AskingError → Asking
asking_in (Ok numbers) = Given numbers
asking_in (Err E.TooLong) = TooLong
asking_in (Err (E.Misread place)) = Wrong place
asking_in (Err E.TooLarge) = TooLarge
asking_in (Err E.Missing) = Missing
asking_in (Err E.NoRoom) = NoRoom

-- the fault of a line, as CSI2 gives it
abbrev pub asking_fault : LineFault → AskingError
asking_fault (Fault.Misread place) = E.Misread place
asking_fault Fault.TooLarge = E.TooLarge
