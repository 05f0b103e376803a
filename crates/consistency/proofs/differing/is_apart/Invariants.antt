-- What the loop of `is_apart` keeps from turn to turn, and what falls in each.
use Prim.Native.Nat.{ℕ, ◌≤◌}
use mathlib.Core.Path.{◌≡◌}
use Rattle.consistency.specs.DifferTest.{key_number, InList}
use Rattle.consistency.proofs.differing.is_apart.Given as goal

abbrev pub invariant-loop-f : goal.invariant-loop-f
invariant-loop-f l = (l.f ≤ l.initial.f) × ((i : ℕ) → InList l.links l.initial.f i → key_number l.view.img.now l.view.g i ≡ l.key → InList l.links l.f i)

abbrev pub decreases-loop-f : goal.decreases-loop-f
decreases-loop-f l = l.f
