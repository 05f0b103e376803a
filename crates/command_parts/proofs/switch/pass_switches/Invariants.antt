-- What the loop of `pass_switches` keeps from turn to turn, and what falls in each.
use Prim.Native.Nat.{◌-◌}
use mathlib.Core.Path.{◌≡◌}
use lib.ListN.{length}
use Rattle.command_grammar.specs.Reader.{from}
use Rattle.command_parts.specs.Passed.{switches, passed}
use Rattle.command_parts.proofs.switch.pass_switches.Given as goal

abbrev pub invariant-loop-start : goal.invariant-loop-start
invariant-loop-start l = passed (from switches l.line l.initial.here.at) ≡ passed (from switches l.line l.here.at)

abbrev pub decreases-loop-start : goal.decreases-loop-start
decreases-loop-start l = length l.line - l.here.at
