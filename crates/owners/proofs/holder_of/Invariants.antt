-- What the loop of `holder_of` keeps from turn to turn.
use Prim.Native.Nat.{◌-◌}
use mathlib.Core.Path.{◌≡◌}
use Rattle.pack.specs.Geometry.{slots}
use Rattle.pack.specs.Owner.{holder}
use Rattle.owners.proofs.holder_of.Given as goal

abbrev pub invariant-loop-e : goal.invariant-loop-e
invariant-loop-e l = holder l.view.img.now l.view.g l.b.0 0 (slots l.view.g) ≡ holder l.view.img.now l.view.g l.b.0 l.e (slots l.view.g - l.e)
