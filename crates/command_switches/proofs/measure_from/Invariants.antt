-- What the loop of `measure_from` keeps from turn to turn, and what falls in each.
use Prim.Native.Nat.{◌-◌}
use lib.ListN.{length}
use Rattle.command_switches.proofs.SwitchesMeasured.{Measures}
use Rattle.command_switches.proofs.measure_from.Given as goal

abbrev pub invariant-loop-start : goal.invariant-loop-start
invariant-loop-start l = Measures l.line l.initial.here.at l.initial.sum l.here.at l.sum

abbrev pub decreases-loop-start : goal.decreases-loop-start
decreases-loop-start l = length l.line - l.here.at
