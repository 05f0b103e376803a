-- Rests on `PutSpelled`: what RADUP leaves in the lent part is the word spelled there, or nothing, by its code.
use mathlib.Core.Path.{sym, ◌∙◌}
use Rattle.printing.proofs.PutSpelled.{put_spelled, put_unspelled, refused_code, given_code}
use Rattle.printing.proofs.put_word.Goals as goal

pub returns-then-is_err-clause-put : goal.returns-then-is_err-clause-put
returns-then-is_err-clause-put c = put_unspelled _ _ _ _ _ c.requires c.radup.ensures.value c.radup.ensures.characters_after
    (refused_code _ (sym c.is_err.ensures.value ∙ c.if-is_err.true))

pub returns-clause-put : goal.returns-clause-put
returns-clause-put c = put_spelled _ _ _ _ _ c.requires c.radup.ensures.value c.radup.ensures.characters_after
    (given_code _ (sym c.is_err.ensures.value ∙ c.if-is_err.false))
