-- What the loop of `mark_run` keeps from turn to turn.
use Prim.Native.Nat.{◌+◌}
use Rattle.room.proofs.MapMarking.{Marking}
use Rattle.room.proofs.mark_run.Given as goal

abbrev pub invariant-loop-b : goal.invariant-loop-b
invariant-loop-b l = Marking l.initial.img l.g l.fn.start.0 (l.fn.start.0 + l.fn.count.0) l.img l.b
