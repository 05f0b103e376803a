-- What the loop of `highest_run` keeps from turn to turn: `b` is the last block that was passed, at first the one from which on all are held.
use Prim.Native.Nat.{ℕ, ◌-◌, ◌≤◌, ◌<◌}
use mathlib.Core.Path.{◌≡◌}
use Rattle.room.specs.RoomMap.{HeldFrom, free_from, run_on}
use Rattle.room.proofs.highest_run.Given as goal

abbrev pub invariant-loop-b : goal.invariant-loop-b
invariant-loop-b l = (l.b ≤ l.initial.b)
    × (l.free < l.count.0)
    × ((end : ℕ) → HeldFrom l.map l.initial.b end → (l.free ≡ free_from l.map l.b (end - l.b)) × (run_on l.map l.low end l.count.0 end ≡ run_on l.map l.low end l.count.0 l.b))
