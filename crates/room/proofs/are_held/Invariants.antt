-- What the loop of `are_held` keeps from turn to turn.
use mathlib.Core.Path.{◌≡◌}
use mathlib.Core.Bool.{true}
use Rattle.room.specs.RoomMap.{HeldFrom}
use Rattle.room.proofs.are_held.Given as goal

abbrev pub invariant-loop-b : goal.invariant-loop-b
invariant-loop-b l = l.held ≡ true → HeldFrom l.map l.from l.b
