-- What the loop of `same_before` keeps from turn to turn.
use Prim.Native.Nat.{◌≤◌}
use Rattle.faults.specs.Looking.{FirstWrong, OtherKey}
use Rattle.faults.proofs.fields.same_before.Given as goal

abbrev pub invariant-loop-f : goal.invariant-loop-f
invariant-loop-f l = (l.f ≤ l.e) × FirstWrong (OtherKey l.view.img.now l.view.g l.e) 0 l.f l.f
