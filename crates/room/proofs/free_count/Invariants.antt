-- What the loop of `free_count` keeps from turn to turn.
use Prim.Native.Nat.{◌+◌, ◌-◌}
use mathlib.Core.Path.{◌≡◌}
use Rattle.room.specs.RoomMap.{free_on}
use Rattle.room.proofs.free_count.Given as goal

abbrev pub invariant-loop-b : goal.invariant-loop-b
invariant-loop-b l = l.free + free_on l.map l.b (l.fn.g.blocks - l.b) ≡ free_on l.map l.fn.g.bodies.0 (l.fn.g.blocks - l.fn.g.bodies.0)
