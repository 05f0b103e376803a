-- What the loop of `count_file` keeps from turn to turn.
use Prim.Native.Nat.{◌-◌}
use Rattle.faults.proofs.LookedShared.{Counting}
use Rattle.faults.proofs.shared.count_file.Given as goal

abbrev pub invariant-loop : goal.invariant-loop
invariant-loop l = Counting l.view.img.now l.view.g l.x.kind l.initial.counts l.x.length l.x.first.0 l.counts (l.x.length - l.counter) l.b.0
