-- What the loop of `lowest_empty` keeps from turn to turn.
use Prim.Native.Nat.{◌-◌, ◌%◌}
use mathlib.Core.Path.{◌≡◌}
use Rattle.pack.specs.Geometry.{slots}
use Rattle.creation.specs.CreatingLowest.{empty_from}
use Rattle.creation.proofs.creating.lowest_empty.Given as goal

abbrev pub invariant-loop-e : goal.invariant-loop-e
invariant-loop-e l = (l.e % 2 ≡ 0) × (empty_from l.view.img.now l.view.g 0 (slots l.view.g) ≡ empty_from l.view.img.now l.view.g l.e (slots l.view.g - l.e))
