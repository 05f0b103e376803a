-- What the loop of `pass_values` keeps from turn to turn, and what falls in each.
use Prim.Native.Nat.{◌-◌}
use mathlib.Core.Path.{◌≡◌}
use lib.ListN.{length}
use Rattle.command_grammar.specs.LineCharacters.{colon}
use Rattle.command_grammar.specs.Reader.{is, many, switch_value, from}
use Rattle.command_parts.specs.Passed.{passed}
use Rattle.command_parts.proofs.switch.pass_values.Given as goal

abbrev pub invariant-loop-start : goal.invariant-loop-start
invariant-loop-start l = passed (from (many (is colon) switch_value) l.line l.initial.here.at) ≡ passed (from (many (is colon) switch_value) l.line l.here.at)

abbrev pub decreases-loop-start : goal.decreases-loop-start
decreases-loop-start l = length l.line - l.here.at
