-- What the loop of `wrong_uic` keeps from turn to turn.
use Rattle.faults.specs.Rules.{RightWord}
use Rattle.faults.specs.Looking.{FirstWrong}
use Rattle.faults.proofs.headers.wrong_uic.Given as goal

abbrev pub invariant-loop-w : goal.invariant-loop-w
invariant-loop-w l = FirstWrong (RightWord l.img) 4 l.w l.w
