-- What the loop of `are_words_right` keeps from turn to turn.
use Prim.Native.Nat.{◌-◌}
use Rattle.consistency.specs.MapTest.{mark_on}
use Rattle.consistency.proofs.MapTest.{Leads}
use Rattle.consistency.proofs.mapping.are_words_right.Given as goal

abbrev pub invariant-loop-w : goal.invariant-loop-w
invariant-loop-w l = Leads l.view.img.now l.view.g (mark_on l.marks) l.w
