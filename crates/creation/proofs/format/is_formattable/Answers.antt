-- Rests on `FormatRows`: the three parts of the test, in the order of the code.
use mathlib.Core.Path.{sym, ◌∙◌}
use Rattle.creation.proofs.FormatRows.{half_word, not_measured, by_uics}
use Rattle.creation.proofs.format.is_formattable.Goals as goal

pub returns-then-uics-ne0 : goal.returns-then-uics-ne0
returns-then-uics-ne0 c = half_word _ _ _ _ _ c.if-uics-ne0.true

pub returns-then-not-is_measured : goal.returns-then-not-is_measured
returns-then-not-is_measured c = not_measured _ _ _ _ _ c.if-uics-ne0.false (sym c.is_measured.ensures ∙ c.if-not-is_measured.true)

pub returns : goal.returns
returns c = by_uics _ _ _ _ _ c.if-uics-ne0.false (sym c.is_measured.ensures ∙ c.if-not-is_measured.false) c.is_distinct.ensures
