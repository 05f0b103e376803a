-- What the loop of `letters` keeps from turn to turn.
use Rattle.radix.specs.Names.{is_letter}
use Rattle.command_cursor.proofs.CursorAtSteps.{Runs}
use Rattle.command_cursor.proofs.Cursor.letters.Given as goal

abbrev pub invariant-loop : goal.invariant-loop
invariant-loop l = Runs is_letter l.most l.line l.fn.self.at l.counter l.here.at
