-- Rests on `SoughtChoices`: side 0 is output, 1 input, and any other none; which of its specifications is what `among` says.
use mathlib.Core.Path.{◌∙◌}
use native.Mathlib.Omega.{arith}
use Rattle.command_sides.proofs.SoughtChoices.{chosen_output, chosen_input, chosen_none}
use Rattle.command_sides.proofs.choose.Goals as goal

pub returns-in-0 : goal.returns-in-0
returns-in-0 c = c.among.ensures ∙ chosen_output _ _ _ _ c.in-0.is

pub returns-in-1 : goal.returns-in-1
returns-in-1 c = c.among-in-1.ensures ∙ chosen_input _ _ _ _ (λ zero. omega arith) c.in-1.is

pub returns-in_default : goal.returns-in_default
returns-in_default c = chosen_none c.args.side c.args.k c.args.output c.args.input (λ zero. omega arith) (λ one. omega arith)
