-- What CSI1 answers, as the laws have it: the length of the condensed line, or why it is refused.
use Rattle.std.specs.Prelude.{ℕ, Result, Ok, Err}
use Rattle.command_sides.specs.declared.LineFault.{LineFault}
use Rattle.command_sides.specs.declared.LineFault.TheVariants as Fault
use Rattle.command.specs.declared.csi1.CondensingError.{CondensingError}
use Rattle.command.specs.declared.csi1.CondensingError.TheVariants as E

pub data Condensing : Type 0 where
  Accepted : ℕ → Condensing
  TooLong : Condensing
  NoRoom : Condensing
  Wrong : ℕ → Condensing
  TooLarge : Condensing

-- an outcome of the code as that
abbrev pub condensing_in : Result ℕ CondensingError → Condensing
condensing_in (Ok length) = Accepted length
condensing_in (Err E.TooLong) = TooLong
condensing_in (Err E.NoRoom) = NoRoom
condensing_in (Err (E.Misread place)) = Wrong place
condensing_in (Err E.TooLarge) = TooLarge

-- the fault of a line, as CSI1 gives it
abbrev pub condensing_fault : LineFault → CondensingError
condensing_fault (Fault.Misread place) = E.Misread place
condensing_fault Fault.TooLarge = E.TooLarge
