-- Rests on `MapTest`: where there is no map, nothing is looked at.
use mathlib.Core.Path.{sym, ◌∙◌}
use Rattle.consistency.proofs.MapTest.{test_none, test_there}
use Rattle.consistency.proofs.mapping.is_map_right.Goals as goal

pub returns-then-not-has_map : goal.returns-then-not-has_map
returns-then-not-has_map c = test_none _ _ _ (sym c.has_map.ensures ∙ c.if-not-has_map.true)

pub returns : goal.returns
returns c = c.are_words_right.ensures ∙ test_there _ _ _ (sym c.has_map.ensures ∙ c.if-not-has_map.false)
