-- What the reader finds of a line, in the words of the grammar.
use Prim.Native.Nat.{ℕ}
use mathlib.Core.List.{List}
use Rattle.std.specs.Prelude.{Option, Some, None, Ok, Err}
use Rattle.command_cursor.specs.declared.Cursor.{Cursor}
use Rattle.command_grammar.specs.Reading.{reads, exceeds}
use Rattle.command_grammar.proofs.ReaderLines.{said_by, placed_by}
use Rattle.command_grammar.proofs.Keeps.{keeps_bounded, not_bounded}
use Rattle.command_sides.specs.Sought.{LocatedIn}
use Rattle.command_sides.specs.Sought as S
use Rattle.command_sides.specs.Located.{located_in}
use Rattle.command_sides.specs.declared.LineFault.{LineFault}
use Rattle.command_sides.specs.declared.LineFault.TheVariants as Fault
use Rattle.command.specs.Judged.{judgement_in, Judged}
use Rattle.command.specs.Judged as Q

module _ {line : List ℕ} {side k : ℕ} where
  pub judged_fault : (fault : LineFault) → LocatedIn line side k (located_in (Err fault)) → Judged line (judgement_in (Err fault))
  judged_fault (Fault.Misread place) (S.LocatedIn.refused is) = Q.Judged.wrong (placed_by line place is)
  judged_fault Fault.TooLarge (S.LocatedIn.large {said} {n} is fails) = Q.Judged.large (exceeds (said_by line said n is) (not_bounded said fails))

  pub judged_right : (found : Option Cursor) → LocatedIn line side k (located_in (Ok found)) → Judged line Q.Right
  judged_right None (S.LocatedIn.missing {said} {n} is keeps none_at) = Q.Judged.right (reads (said_by line said n is) (keeps_bounded said keeps))
  judged_right (Some start) (S.LocatedIn.located {said} {n} is keeps some_at begins) = Q.Judged.right (reads (said_by line said n is) (keeps_bounded said keeps))
