-- What the loop of `many` keeps from turn to turn.
use Rattle.many.proofs.Folds.{Made}
use Rattle.many.proofs.many.Given as goal

abbrev pub invariant-loop-i : goal.invariant-loop-i
invariant-loop-i l = Made l.fn.img l.fn.map l.fn.answers l.opened l.records l.i l.img l.map l.answers
