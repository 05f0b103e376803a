-- Means: what is answered where a part of a line was passed over: where the cursor stands then, or the place of the refusal.
use Rattle.std.specs.Prelude.{ℕ, Result, Ok, Err}
use Rattle.command_cursor.specs.declared.Cursor.{Cursor}
use Rattle.command_cursor.specs.declared.Misread.{Misread}

pub data Part : Type 0 where
  Read : Cursor → Part
  Refused : ℕ → Part

abbrev pub part_in : Result Cursor Misread → Part
part_in (Ok next) = Read next
part_in (Err misread) = Refused misread.place
