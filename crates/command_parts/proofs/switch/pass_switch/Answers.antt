-- Rests on `PassedValues`: no letter at the cursor, or the end of the values behind the name.
use mathlib.Core.Path.{◌∙◌}
use Rattle.command_parts.proofs.PassedValues.{switch_short, switch_on}
use Rattle.command_parts.proofs.switch.pass_switch.Goals as goal

pub returns-then-letter-c : goal.returns-then-letter-c
returns-then-letter-c c = switch_short _ _ _ c.letters-letter.ensures c.if-letter-c.true

pub returns : goal.returns
returns c = c.pass_values.ensures ∙ switch_on _ _ _ c.letters-letter.ensures c.if-letter-c.false _ c.named.ensures
