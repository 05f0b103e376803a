-- Rests on `OwnerSearch`: an entry that has the block decides, else the entries behind it do; the blocks of an entry are blocks of the pack.
use mathlib.Core.Path.{sym, ◌∙◌}
use Rattle.pack.proofs.GeometryRoom.{below_count, past_count}
use Rattle.owners.proofs.OwnerSearch.{measured_blocks, holder_here, holder_next, holder_end}
use Rattle.owners.proofs.holder_of.Goals as goal

pub read_entry-x-requires : goal.read_entry-x-requires
read_entry-x-requires c = record { e_bound = below_count c.slot_count-e-end.ensures.value c.loop-e-test.true }

pub place_in-requires : goal.place_in-requires
place_in-requires c = record {
  by_index = measured_blocks c.requires.consistent c.requires.img_value _
      (below_count c.slot_count-e-end.ensures.value c.loop-e-test.true) _ c.read_entry-x.ensures.value;
}

pub returns-in-Some : goal.returns-in-Some
returns-in-Some c = sym (c.loop-e.invariant ∙ holder_here _ _ _ _ _ (below_count c.slot_count-e-end.ensures.value c.loop-e-test.true) _
    c.read_entry-x.ensures.value _ c.place_in.ensures _ c.in-Some.is)

pub loop-e-preserved : goal.loop-e-preserved
loop-e-preserved c = c.loop-e.invariant ∙ holder_next _ _ _ _ _ (below_count c.slot_count-e-end.ensures.value c.loop-e-test.true) _
    c.read_entry-x.ensures.value _ c.place_in.ensures c.in_default.is

pub returns : goal.returns
returns c = sym (c.loop-e.invariant ∙ holder_end _ _ _ _ _ (past_count c.slot_count-e-end.ensures.value c.loop-e-test.false))
