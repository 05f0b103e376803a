-- What the loop of `highest_below` keeps from turn to turn, and what falls in each.
use Prim.Native.Nat.{◌+◌}
use Rattle.room.specs.RoomMap.{HeldFrom}
use Rattle.room.proofs.highest_below.Given as goal

abbrev pub invariant-loop-b : goal.invariant-loop-b
invariant-loop-b l = HeldFrom l.map (l.b + 1) (l.initial.b + 1)

abbrev pub decreases-loop-b : goal.decreases-loop-b
decreases-loop-b l = l.b
