-- Rests on `RadpkCases`: three characters answer the word that they have, or 60.
use mathlib.Core.Path.{ap, ◌∙◌}
use native.Mathlib.Omega.{arith}
use Rattle.answers.specs.Refusals.{answer_in}
use Rattle.radix.proofs.RadpkCases.{three_answered}
use Rattle.radix.proofs.radpk.radpk.Goals as goal

pub returns : goal.returns
returns c = ap answer_in c.ok_or.ensures.value ∙ three_answered _ (omega arith) _ c.word_of.ensures
