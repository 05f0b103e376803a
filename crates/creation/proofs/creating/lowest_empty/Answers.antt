-- Rests on `CreatingLowest`: the entries that are left decide, and of a right entry the first word says whether it is empty; `Keys`: entries are even in number.
use mathlib.Core.Path.{sym, ◌∙◌}
use native.Mathlib.Omega.{arith}
use Rattle.pack.proofs.GeometryRoom.{below_count, past_count}
use Rattle.asking.proofs.Keys.{pair_below}
use Rattle.creation.proofs.CreatingLowest.{empty_here, empty_next, empty_both, empty_end}
use Rattle.creation.proofs.creating.lowest_empty.Goals as goal

pub returns-then-entry_word-eq0 : goal.returns-then-entry_word-eq0
returns-then-entry_word-eq0 c = let inside = below_count c.slot_count-e-end.ensures.value c.loop-e-test.true in
    sym (c.loop-e.invariant.1 ∙ empty_here _ _ _ _ _ inside c.entry_word.ensures.value (c.requires.by_index _ inside) c.if-entry_word-eq0.true)

pub returns-then-entry_word-eq0-2 : goal.returns-then-entry_word-eq0-2
returns-then-entry_word-eq0-2 c = let inside = pair_below c.args.view.g c.slot_count-e-end.ensures.value c.loop-e.invariant.0 c.loop-e-test.true in
    sym (c.loop-e.invariant.1 ∙ empty_next _ _ _ _ _ (omega (arith, inside)) c.entry_word.ensures.value c.if-entry_word-eq0.false
    ∙ empty_here _ _ _ _ _ inside c.entry_word-in-loop-e.ensures.value (c.requires.by_index _ inside) c.if-entry_word-eq0-2.true)

pub loop-e-preserved : goal.loop-e-preserved
loop-e-preserved c = let inside = pair_below c.args.view.g c.slot_count-e-end.ensures.value c.loop-e.invariant.0 c.loop-e-test.true in (
  omega (arith, c.loop-e.invariant.0),
  c.loop-e.invariant.1
      ∙ empty_both _ _ _ _ _ _ inside c.entry_word.ensures.value c.if-entry_word-eq0.false
      c.entry_word-in-loop-e.ensures.value c.if-entry_word-eq0-2.false,
)

pub returns-else-entry_word-eq0-2 : goal.returns-else-entry_word-eq0-2
returns-else-entry_word-eq0-2 c = let inside = pair_below c.args.view.g c.slot_count-e-end.ensures.value c.loop-e.invariant.0 c.loop-e-test.true in
    sym (c.loop-e.invariant.1
    ∙ empty_both _ _ _ _ _ _ inside c.entry_word.ensures.value c.if-entry_word-eq0.false
    c.entry_word-in-loop-e.ensures.value c.if-entry_word-eq0-2.false
    ∙ empty_end _ _ _ _ (omega (arith, inside, c.slot_count-e-end.ensures.value)))

pub returns : goal.returns
returns c = sym (c.loop-e.invariant.1 ∙ empty_end _ _ _ _ (past_count c.slot_count-e-end.ensures.value c.loop-e-test.false))
