-- Rests on `EntryTestAnswers`: two numbers of eight bytes that are 0 have words that are 0.
use borrow.Author.Tests.{eqb-true}
use Rattle.consistency.proofs.EntryTestAnswers.{closed_by}
use Rattle.consistency.proofs.is_closed.Goals as goal

pub returns : goal.returns
returns c = λ right. closed_by _ _ _ c.bytes.ensures c.eight_at.ensures.value c.eight_at-2.ensures.value
    c.if-eight_at-ne0.false (eqb-true _ _ right)
