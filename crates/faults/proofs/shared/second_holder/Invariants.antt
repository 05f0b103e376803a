-- What the loop of `second_holder` keeps from turn to turn.
use Prim.Native.Nat.{◌-◌}
use mathlib.Core.Path.{◌≡◌}
use Rattle.pack.specs.Geometry.{slots}
use Rattle.faults.specs.Second.{second_from, second}
use Rattle.faults.proofs.shared.second_holder.Given as goal

abbrev pub invariant-loop-e : goal.invariant-loop-e
invariant-loop-e l = second l.view.img.now l.b ≡ second_from l.view.img.now l.view.g l.b l.seen l.e (slots l.view.g - l.e)
