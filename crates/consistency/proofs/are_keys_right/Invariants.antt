-- What the loop of `are_keys_right` keeps from turn to turn.
use Prim.Native.Nat.{◌-◌}
use mathlib.Core.Path.{◌≡◌}
use lib.ListN.{length}
use Rattle.pack.specs.Geometry.{slots}
use Rattle.consistency.specs.DifferTest.{Listing}
use Rattle.consistency.specs.ConsistentTest.{names_test}
use Rattle.consistency.proofs.are_keys_right.Given as goal

abbrev pub invariant-loop-e : goal.invariant-loop-e
invariant-loop-e l = Listing l.view.img.now l.view.g l.heads l.links l.e
    × (names_test l.view.img.now l.view.g 0 (slots l.view.g) ≡ names_test l.view.img.now l.view.g l.e (slots l.view.g - l.e))
    × (length l.links ≡ length l.initial.links)
    × (length l.heads ≡ length l.initial.heads)
