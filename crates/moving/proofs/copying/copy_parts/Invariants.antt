-- What the loop of `copy_parts` keeps from turn to turn, and what falls in each.
use Prim.Native.Nat.{◌-◌, ◌≤◌}
use mathlib.Core.Path.{◌≡◌}
use lib.ListN.{length}
use Rattle.moving.specs.MovedParts.{CopiedRun}
use Rattle.moving.proofs.copying.copy_parts.Given as goal

abbrev pub invariant-loop-done : goal.invariant-loop-done
invariant-loop-done l = CopiedRun l.source l.initial.target l.target l.from l.to l.done × (l.done ≤ l.count) × (length l.between ≡ length l.initial.between)

abbrev pub decreases-loop-done : goal.decreases-loop-done
decreases-loop-done l = l.count - l.done
