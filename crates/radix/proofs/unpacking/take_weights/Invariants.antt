-- What the loop of `take_weights` keeps from turn to turn.
use mathlib.Core.Path.{◌≡◌}
use Prim.Native.Nat.{◌≤◌}
use lib.ListN.{drop}
use Rattle.radix.specs.Unpacking.{weights, through}
use Rattle.radix.proofs.unpacking.take_weights.Given as goal

abbrev pub invariant-loop-weight : goal.invariant-loop-weight
invariant-loop-weight l = (l.bit ≤ 2048) × (through weights 2048 l.initial.held ≡ through (drop l.weight-index weights) l.bit l.held)
