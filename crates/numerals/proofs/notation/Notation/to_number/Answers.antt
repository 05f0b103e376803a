-- Rests on the two codes and the success of `Conversion`; `read_number` says which characters write a number.
use mathlib.Core.Path.{sym, ap, ◌∙◌}
use Rattle.answers.specs.Refusals.{answer_in, code_in, number_in, code_of}
use Rattle.answers.proofs.Conversion.{number_41}
use Rattle.numerals.specs.Digits.{number_of}
use Rattle.numerals.proofs.Answered.{number_answered}
use Rattle.numerals.proofs.notation.Notation.to_number.Goals as goal

pub returns-then-characters-PLACES : goal.returns-then-characters-PLACES
unfolding answer_in code_in number_in code_of
returns-then-characters-PLACES g c =
    sym (g.met.Self.Notation.read_is _ ∙ number_41 _ _ _ (λ same. c.if-characters-PLACES.true (same ∙ sym c.PLACES.ensures)))

pub returns : goal.returns
returns g c =
    ap answer_in c.ok_or.ensures.value
    ∙ number_answered g.Self.Notation.PLACES (number_of g.Self.Notation.BASE) _ _ (c.if-characters-PLACES.false ∙ c.PLACES.ensures)
    (c.read_number.ensures ∙ ap (λ base. number_of base c.args.characters.now) c.BASE.ensures)
    ∙ sym (g.met.Self.Notation.read_is _)
