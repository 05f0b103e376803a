-- What the loop of `number` keeps from turn to turn.
use Rattle.command_cursor.proofs.NumberAt.{Digits}
use Rattle.command_cursor.proofs.Cursor.number.Given as goal

abbrev pub invariant-loop-at : goal.invariant-loop-at
invariant-loop-at l = Digits l.line l.fn.self.at l.value l.at
