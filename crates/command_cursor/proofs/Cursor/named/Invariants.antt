-- What the loop of `named` keeps from turn to turn.
use Rattle.radix.specs.Names.{is_letter_or_digit}
use Rattle.command_cursor.proofs.CursorAtSteps.{Runs}
use Rattle.command_cursor.proofs.Cursor.named.Given as goal

abbrev pub invariant-loop : goal.invariant-loop
invariant-loop l = Runs is_letter_or_digit l.most l.line l.fn.self.at l.counter l.here.at
