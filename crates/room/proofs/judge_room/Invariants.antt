-- What the loop of `judge_room` keeps from turn to turn.
use Prim.Native.Nat.{◌-◌}
use mathlib.Core.Path.{◌≡◌}
use lib.Dec.{leb}
use Rattle.room.specs.RoomMap.{free_on}
use Rattle.room.proofs.judge_room.Given as goal

abbrev pub invariant-loop-b : goal.invariant-loop-b
invariant-loop-b l = leb l.fn.needed.0 (free_on l.map l.fn.g.bodies.0 (l.fn.g.blocks - l.fn.g.bodies.0)) ≡ leb l.left (free_on l.map l.b (l.fn.g.blocks - l.b))
