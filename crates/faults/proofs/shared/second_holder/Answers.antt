-- Rests on `LookedShared`: the entries that are left decide, with whether one before them reaches the block.
use mathlib.Core.Path.{sym, ◌∙◌}
use Rattle.pack.proofs.GeometryRoom.{below_count, past_count}
use Rattle.faults.proofs.LookedShared.{entry_bodies, sought_start, sought_found, sought_next, sought_end}
use Rattle.faults.proofs.shared.second_holder.Goals as goal

pub loop-e-init : goal.loop-e-init
loop-e-init c = sought_start c.requires _

pub read_entry-requires : goal.read_entry-requires
read_entry-requires c = record { e_bound = below_count c.slot_count-e-end.ensures.value c.loop-e-test.true }

pub reaches-here-requires : goal.reaches-here-requires
reaches-here-requires c = record {
  by_index = entry_bodies c.requires (below_count c.slot_count-e-end.ensures.value c.loop-e-test.true) c.read_entry.ensures.value;
}

pub returns-then-seen-here : goal.returns-then-seen-here
returns-then-seen-here c = let inside = below_count c.slot_count-e-end.ensures.value c.loop-e-test.true in
    sought_found _ _ _ _ inside c.read_entry.ensures.value c.reaches-here.ensures _ c.if-seen-here.true ∙ sym c.loop-e.invariant

pub loop-e-preserved : goal.loop-e-preserved
loop-e-preserved c = let inside = below_count c.slot_count-e-end.ensures.value c.loop-e-test.true in
    c.loop-e.invariant ∙ sought_next _ _ _ _ inside c.read_entry.ensures.value c.reaches-here.ensures _ c.if-seen-here.false

pub returns : goal.returns
returns c = sought_end _ _ _ _ _ (past_count c.slot_count-e-end.ensures.value c.loop-e-test.false) ∙ sym c.loop-e.invariant
