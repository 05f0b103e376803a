-- Rests on `LookedShared`: what is counted with the files that are left.
use native.Mathlib.Omega.{arith}
use Rattle.pack.proofs.GeometryRoom.{below_count, past_count}
use Rattle.faults.proofs.LookedShared.{entry_bodies, counted_start, counted_next, counted_end}
use Rattle.faults.proofs.shared.count_files.Goals as goal

pub loop-e-init : goal.loop-e-init
loop-e-init c = counted_start c.requires.all_right c.requires.counts_value.0

pub read_entry-requires : goal.read_entry-requires
read_entry-requires c = record { e_bound = below_count c.slot_count-e-end.ensures.value c.loop-e-test.true }

pub count_file-requires : goal.count_file-requires
count_file-requires c = record {
  blocks_in_bounds = omega (arith, c.requires.counts_value.1, c.loop-e.auto.counts);
  by_index = entry_bodies c.requires.all_right (below_count c.slot_count-e-end.ensures.value c.loop-e-test.true) c.read_entry.ensures.value;
}

pub loop-e-preserved : goal.loop-e-preserved
loop-e-preserved c = counted_next c.requires.all_right (below_count c.slot_count-e-end.ensures.value c.loop-e-test.true) c.read_entry.ensures.value
    c.count_file.ensures c.loop-e.invariant

pub returns : goal.returns
returns c = counted_end c.requires.all_right (past_count c.slot_count-e-end.ensures.value c.loop-e-test.false) c.loop-e.invariant
