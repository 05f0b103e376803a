-- Rests on `MapTest`: a word is right exactly if its sixteen bits are, and what is still to be looked at decides.
use native.Mathlib.Omega.{arith}
use Rattle.consistency.proofs.MapTest.{words_inside, leads_step, leads_wrong, leads_end}
use Rattle.consistency.proofs.mapping.are_words_right.Goals as goal

pub word_at-requires : goal.word_at-requires
word_at-requires c = words_inside c.args.view.sized c.requires.has_map.0 c.words-words.ensures _ c.loop-w-test.true

pub returns-then-word_at-word_of : goal.returns-then-word_at-word_of
returns-then-word_at-word_of c = leads_wrong c.loop-w.invariant c.requires.has_map.1.few c.words-words.ensures c.loop-w-test.true c.word_at.ensures.value
    c.word_at.ensures.upper_bound c.word_of.ensures c.if-word_at-word_of.true

pub loop-w-preserved : goal.loop-w-preserved
loop-w-preserved c = leads_step c.loop-w.invariant c.requires.has_map.1.few c.words-words.ensures c.loop-w-test.true c.word_at.ensures.value c.word_at.ensures.upper_bound
    c.word_of.ensures c.if-word_at-word_of.false

pub returns : goal.returns
returns c = leads_end c.loop-w.invariant c.words-words.ensures (omega (arith, c.loop-w-test.false))
