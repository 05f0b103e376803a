-- Rests on `Keys`: what the entries that are left say is what all say, and they are even in number.
use mathlib.Core.Path.{sym, ◌∙◌}
use native.Mathlib.Omega.{arith}
use Rattle.pack.proofs.GeometryRoom.{below_count, past_count}
use Rattle.asking.proofs.Keys.{pair_below, find_here, find_next, find_both, find_end}
use Rattle.asking.proofs.find.Goals as goal

pub returns-then-is_same_key : goal.returns-then-is_same_key
returns-then-is_same_key c = sym (c.loop-e.invariant.1
    ∙ find_here _ _ _ _ _ (below_count c.slot_count-e-end.ensures.value c.loop-e-test.true) _ c.read_key.ensures (sym c.is_same_key.ensures ∙ c.if-is_same_key.true))

pub returns-then-is_same_key-2 : goal.returns-then-is_same_key-2
returns-then-is_same_key-2 c = let inside = pair_below c.args.view.g c.slot_count-e-end.ensures.value c.loop-e.invariant.0 c.loop-e-test.true in
    sym (c.loop-e.invariant.1 ∙ find_next _ _ _ _ _ (omega (arith, inside)) _ c.read_key.ensures (sym c.is_same_key.ensures ∙ c.if-is_same_key.false)
    ∙ find_here _ _ _ _ _ inside _ c.read_key-in-loop-e.ensures (sym c.is_same_key-in-loop-e.ensures ∙ c.if-is_same_key-2.true))

pub loop-e-preserved : goal.loop-e-preserved
loop-e-preserved c = let inside = pair_below c.args.view.g c.slot_count-e-end.ensures.value c.loop-e.invariant.0 c.loop-e-test.true in (
  omega (arith, c.loop-e.invariant.0),
  c.loop-e.invariant.1
      ∙ find_both _ _ _ _ _ inside _ _ c.read_key.ensures (sym c.is_same_key.ensures ∙ c.if-is_same_key.false)
      c.read_key-in-loop-e.ensures (sym c.is_same_key-in-loop-e.ensures ∙ c.if-is_same_key-2.false),
)

pub returns-else-is_same_key-2 : goal.returns-else-is_same_key-2
returns-else-is_same_key-2 c = let inside = pair_below c.args.view.g c.slot_count-e-end.ensures.value c.loop-e.invariant.0 c.loop-e-test.true in
    sym (c.loop-e.invariant.1
    ∙ find_both _ _ _ _ _ inside _ _ c.read_key.ensures (sym c.is_same_key.ensures ∙ c.if-is_same_key.false)
    c.read_key-in-loop-e.ensures (sym c.is_same_key-in-loop-e.ensures ∙ c.if-is_same_key-2.false)
    ∙ find_end _ _ _ _ _ (omega (arith, inside, c.slot_count-e-end.ensures.value)))

pub returns : goal.returns
returns c = sym (c.loop-e.invariant.1 ∙ find_end _ _ _ _ _ (past_count c.slot_count-e-end.ensures.value c.loop-e-test.false))
