-- Rests on the law of words of three letters or digits: such a word is a name with any extension behind it.
use mathlib.Core.Path.{sym, ◌∙◌}
use Rattle.radix.proofs.NamesTestFilled.{filled_name}
use Rattle.consistency.proofs.is_name_right.Goals as goal

pub returns-then-is_filled : goal.returns-then-is_filled
returns-then-is_filled c = c.is_legal_extension.ensures ∙ filled_name _ _ (sym c.is_filled.ensures ∙ c.if-is_filled.true)
