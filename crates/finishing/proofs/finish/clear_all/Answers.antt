-- Rests on `FinishLoop`: an entry more that is cleared or left, and at the end no DELET is left; `GeometryRoom`: `slot_count` counted the entries.
use Rattle.pack.proofs.GeometryRoom.{below_count, past_count}
use Rattle.finishing.proofs.FinishLoop.{remaining_start, remaining_sized, remaining_bodies, remaining_step, remaining_end}
use Rattle.finishing.proofs.finish.clear_all.Goals as goal

pub invariant_of-slot_count : goal.invariant_of-slot_count
invariant_of-slot_count c = record { sized = remaining_sized (remaining_start c.args.caller c.requires.consistent c.requires.img_value) }

pub clear_scratch-number-requires : goal.clear_scratch-number-requires
clear_scratch-number-requires c = let inside = below_count c.slot_count-total.ensures.value c.loop-e-test.true in
    record { sized = remaining_sized c.loop-e.invariant; e_bound = (inside, remaining_bodies c.loop-e.invariant inside) }

pub loop-e-preserved : goal.loop-e-preserved
loop-e-preserved c = remaining_step c.loop-e.invariant (below_count c.slot_count-total.ensures.value c.loop-e-test.true) c.clear_scratch-number.ensures.value
    c.clear_scratch-number.ensures.img_after

pub returns : goal.returns
returns c = let both = remaining_end c.loop-e.invariant (past_count c.slot_count-total.ensures.value c.loop-e-test.false) c.requires.img_value in
    record { value = both.0; img_after = both.1 }
