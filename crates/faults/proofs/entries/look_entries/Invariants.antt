-- What the loop of `look_entries` keeps from turn to turn.
use Rattle.faults.proofs.LookedWhole.{RightBelow}
use Rattle.faults.proofs.entries.look_entries.Given as goal

abbrev pub invariant-loop-e : goal.invariant-loop-e
invariant-loop-e l = RightBelow l.view.img.now l.e
