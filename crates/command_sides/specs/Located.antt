-- Means: where a specification of the line begins; that there is none; that a number of the line is over its bound; or the place at which it is refused.
use Rattle.std.specs.Prelude.{ℕ, Result, Ok, Err, Option, Some, None}
use Rattle.command_cursor.specs.declared.Cursor.{Cursor}
use Rattle.command_sides.specs.declared.LineFault.{LineFault}
use Rattle.command_sides.specs.declared.LineFault.TheVariants as Fault

pub data Located : Type 0 where
  At : Cursor → Located
  Missing : Located
  TooLarge : Located
  Refused : ℕ → Located

abbrev pub located_in : Result (Option Cursor) LineFault → Located
located_in (Ok (Some start)) = At start
located_in (Ok None) = Missing
located_in (Err (Fault.Misread place)) = Refused place
located_in (Err Fault.TooLarge) = TooLarge
