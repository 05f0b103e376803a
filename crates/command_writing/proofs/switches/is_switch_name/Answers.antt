-- Rests on `NameTests`: the name is legal, and its first code is a letter's.
use mathlib.Core.Path.{sym, ◌∙◌}
use Rattle.command_writing.proofs.NameTests.{fails, decides, refuted, switch_named, switch_not_legal, switch_not_letter}
use Rattle.command_writing.proofs.switches.is_switch_name.Goals as goal

pub returns-then-is_letter_code : goal.returns-then-is_letter_code
returns-then-is_letter_code c = let letter = c.is_letter_code.ensures.0 c.if-is_letter_code.true in
    decides (λ is. switch_named c.first.ensures letter (sym c.is_legal_name.ensures ∙ is)) (λ is. switch_not_legal (sym c.is_legal_name.ensures ∙ is))

pub returns-else-is_letter_code : goal.returns-else-is_letter_code
returns-else-is_letter_code c = fails c.if-is_letter_code.false (switch_not_letter c.first.ensures (refuted c.is_letter_code.ensures c.if-is_letter_code.false))
