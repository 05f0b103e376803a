-- What the loop of `is_chain_right` keeps from turn to turn, with two blocks passed in each.
use Prim.Native.Nat.{◌-◌, ◌*◌}
use mathlib.Core.Path.{◌≡◌}
use Rattle.consistency.specs.EntryTest.{chain_test}
use Rattle.consistency.proofs.WalkSteps.{Walking}
use Rattle.consistency.proofs.walking.is_chain_right.Given as goal

abbrev pub invariant-loop : goal.invariant-loop
invariant-loop l = Walking l.view.img.now l.view.g 2 l.initial.map l.count l.initial.b.0 l.map (l.count - 2 * l.counter) l.b.0
    × (chain_test l.view.img.now l.view.g l.initial.map 0 l.count l.initial.b.0 l.stored.0 ≡ chain_test l.view.img.now l.view.g l.map l.last.0 (l.count - 2 * l.counter) l.b.0 l.stored.0)
