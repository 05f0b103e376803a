-- What the loop of `skip_held` keeps from turn to turn, and what falls in each.
use Rattle.room.specs.RoomMap.{HeldFrom}
use Rattle.room.proofs.skip_held.Given as goal

abbrev pub invariant-loop-b : goal.invariant-loop-b
invariant-loop-b l = HeldFrom l.map l.b l.initial.b

abbrev pub decreases-loop-b : goal.decreases-loop-b
decreases-loop-b l = l.b
