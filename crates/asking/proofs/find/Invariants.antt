-- What the loop of `find` keeps from turn to turn.
use Prim.Native.Nat.{◌-◌, ◌%◌}
use mathlib.Core.Path.{◌≡◌}
use Rattle.pack.specs.Geometry.{slots}
use Rattle.asking.specs.KeysTest.{find_from}
use Rattle.asking.proofs.find.Given as goal

abbrev pub invariant-loop-e : goal.invariant-loop-e
invariant-loop-e l = (l.e % 2 ≡ 0) × (find_from l.view.img.now l.view.g l.key 0 (slots l.view.g) ≡ find_from l.view.img.now l.view.g l.key l.e (slots l.view.g - l.e))
