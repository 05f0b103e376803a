-- Rests on `NamesTest`: a name by its first word, blank, other, short or long; the two words are tested as extensions are.
use mathlib.Core.Path.{sym, ◌∙◌}
use Rattle.radix.proofs.NamesTest.{name_blank, name_other, name_short, name_long}
use Rattle.radix.proofs.is_legal_name.Goals as goal

pub returns-then-first-eq0 : goal.returns-then-first-eq0
returns-then-first-eq0 c = name_blank _ _ (sym c.first.ensures ∙ c.if-first-eq0.true)

pub returns-then-not-is_legal_extension : goal.returns-then-not-is_legal_extension
returns-then-not-is_legal_extension c = name_other _ _ (λ is. c.if-first-eq0.false (c.first.ensures ∙ is)) (sym c.is_legal_extension.ensures ∙ c.if-not-is_legal_extension.true)

pub returns-then-third-eq0 : goal.returns-then-third-eq0
returns-then-third-eq0 c = c.is_blank.ensures.value ∙ name_short _ _
    (λ is. c.if-first-eq0.false (c.first.ensures ∙ is))
    (sym c.is_legal_extension.ensures ∙ c.if-not-is_legal_extension.false)
    (sym c.third.ensures ∙ c.if-third-eq0.true)

pub returns : goal.returns
returns c = c.is_legal_extension-2.ensures ∙ name_long _ _
    (λ is. c.if-first-eq0.false (c.first.ensures ∙ is))
    (sym c.is_legal_extension.ensures ∙ c.if-not-is_legal_extension.false)
    (λ is. c.if-third-eq0.false (c.third.ensures ∙ is))
