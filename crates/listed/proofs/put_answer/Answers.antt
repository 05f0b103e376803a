-- Rests on `RecordBeside`: a cleared part with two words set is an answer.
use Rattle.listed.proofs.RecordBeside.{answer_laid}
use Rattle.listed.proofs.put_answer.Goals as goal

pub returns : goal.returns
returns c = answer_laid _ _ c.requires.0 (c.fill.ensures.after (λ y same. same)) c.set_word.ensures c.set_word-2.ensures
