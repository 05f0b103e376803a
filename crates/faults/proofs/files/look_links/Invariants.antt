-- What the loop of `look_links` keeps from turn to turn.
use Prim.Native.Nat.{◌-◌}
use Rattle.faults.proofs.LookedLinks.{Walked}
use Rattle.faults.proofs.files.look_links.Given as goal

abbrev pub invariant-loop : goal.invariant-loop
invariant-loop l = Walked l.view.img.now l.view.g l.x l.marks (l.counter - 1) l.b
