-- What the loop of `write_switches` keeps from turn to turn, and what falls in each.
use Prim.Native.Nat.{◌-◌}
use lib.ListN.{length}
use Rattle.command_switches.proofs.SwitchesWrittenLoops.{SwitchesLead}
use Rattle.command_switches.proofs.write_switches.Given as goal

abbrev pub invariant-loop-start : goal.invariant-loop-start
invariant-loop-start l = SwitchesLead l.line l.initial.here.at l.initial.i l.initial.count l.initial.buffer l.here.at l.i l.count l.buffer

abbrev pub decreases-loop-start : goal.decreases-loop-start
decreases-loop-start l = length l.line - l.here.at
