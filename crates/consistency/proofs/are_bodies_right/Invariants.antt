-- What the loop of `are_bodies_right` keeps from turn to turn.
use Prim.Native.Nat.{◌-◌}
use mathlib.Core.Path.{◌≡◌}
use lib.ListN.{length}
use Rattle.pack.specs.Geometry.{slots}
use Rattle.consistency.specs.Walk.{SystemTaken}
use Rattle.consistency.specs.ConsistentTest.{bodies_test, mark_all}
use Rattle.consistency.proofs.are_bodies_right.Given as goal

abbrev pub invariant-loop-e : goal.invariant-loop-e
invariant-loop-e l = (length l.map ≡ length l.initial.map)
    × SystemTaken l.map l.view.g
    × (bodies_test l.view.img.now l.view.g l.initial.map 0 (slots l.view.g) ≡ bodies_test l.view.img.now l.view.g l.map l.e (slots l.view.g - l.e))
    × (mark_all l.view.img.now l.view.g l.initial.map 0 (slots l.view.g) ≡ mark_all l.view.img.now l.view.g l.map l.e (slots l.view.g - l.e))
