-- What the loop of `reaches` keeps from turn to turn.
use Prim.Native.Nat.{◌-◌}
use Rattle.faults.proofs.LookedShared.{Seeking}
use Rattle.faults.proofs.shared.reaches.Given as goal

abbrev pub invariant-loop : goal.invariant-loop
invariant-loop l = Seeking l.view.img.now l.view.g l.x.kind l.sought l.x.length l.x.first.0 (l.x.length - l.counter) l.b.0
