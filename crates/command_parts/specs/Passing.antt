-- Means: what is answered where a part was passed over whose numbers have bounds: where it ends and whether they keep them, or the place of the refusal.
use Rattle.std.specs.Prelude.{ℕ, Bool, Result, Ok, Err}
use Rattle.command_cursor.specs.declared.Cursor.{Cursor}
use Rattle.command_cursor.specs.declared.Misread.{Misread}
use Rattle.command_parts.specs.declared.passing.Passed.{Passed}

pub data Passing : Type 0 where
  Read : Cursor → Bool → Passing
  Refused : ℕ → Passing

abbrev pub passing_in : Result Passed Misread → Passing
passing_in (Ok part) = Read part.next part.keeps
passing_in (Err misread) = Refused misread.place
