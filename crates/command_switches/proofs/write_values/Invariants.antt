-- What the loop of `write_values` keeps from turn to turn, and what falls in each.
use Prim.Native.Nat.{◌-◌}
use lib.ListN.{length}
use Rattle.command_switches.proofs.SwitchesWrittenLoops.{ValuesLead}
use Rattle.command_switches.proofs.write_values.Given as goal

abbrev pub invariant-loop-start : goal.invariant-loop-start
invariant-loop-start l = ValuesLead l.line l.initial.here.at l.initial.place l.initial.values l.initial.buffer l.here.at l.place l.values l.buffer

abbrev pub decreases-loop-start : goal.decreases-loop-start
decreases-loop-start l = length l.line - l.here.at
