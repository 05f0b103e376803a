-- Rests on `FirstSought` and `LookedHeader`: the words of the list so far are right.
use mathlib.Core.Path.{sym, ◌∙◌}
use Rattle.faults.proofs.FirstSought.{sought_on, sought_here}
use Rattle.faults.proofs.LookedHeader.{uic_again, uic_right}
use Rattle.faults.proofs.headers.wrong_uic.Goals as goal

pub returns-then-is_among : goal.returns-then-is_among
returns-then-is_among c = sought_here c.loop-w.invariant c.loop-w-test.true
    (uic_again _ c.loop-w.invariant.low c.loop-w-test.true c.requires.1 c.word_at-uic.ensures.value
    (sym c.is_among.ensures ∙ c.if-is_among.true))

pub loop-w-preserved : goal.loop-w-preserved
loop-w-preserved c = sought_on c.loop-w.invariant
    (uic_right _ c.loop-w.invariant.low c.loop-w-test.true c.requires.1 c.word_at-uic.ensures.value c.if-uic-eq0.false
    (sym c.is_among.ensures ∙ c.if-is_among.false))
