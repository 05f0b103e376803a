-- What the loop of `clear_all` keeps from turn to turn.
use Rattle.finishing.proofs.FinishLoop.{Remaining}
use Rattle.finishing.proofs.finish.clear_all.Given as goal

abbrev pub invariant-loop-e : goal.invariant-loop-e
invariant-loop-e l = Remaining l.initial.img l.g l.caller l.number l.img l.e
