-- What the loop of `take_run` keeps from turn to turn.
use Rattle.consistency.proofs.WalkSteps.{Running}
use Rattle.consistency.proofs.walking.take_run.Given as goal

abbrev pub invariant-loop-b : goal.invariant-loop-b
invariant-loop-b l = Running l.initial.map l.first l.behind l.map l.b
