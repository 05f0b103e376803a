-- Rests on `Left` of `OwnerSearch`: the blocks that are left decide, and each of them is a block of the pack.
use Rattle.pack.specs.File.{blocks_of}
use Rattle.owners.proofs.OwnerSearch.{left_start, left_block, left_here, left_next, left_end}
use Rattle.owners.proofs.place_in.Goals as goal

pub loop-place-init : goal.loop-place-init
loop-place-init c = left_start _ _ _ _ c.requires.by_index

pub returns-then-b-at : goal.returns-then-b-at
unfolding blocks_of
returns-then-b-at c = left_here c.loop-place.invariant c.loop-place-test.true c.if-b-at.true

pub next_block-at-requires : goal.next_block-at-requires
next_block-at-requires c = record { b_lt_blocks = left_block c.loop-place.invariant c.loop-place-test.true }

pub loop-place-preserved : goal.loop-place-preserved
loop-place-preserved c = left_next c.loop-place.invariant c.loop-place-test.true c.if-b-at.false _ c.next_block-at.ensures.result_value

pub returns : goal.returns
unfolding blocks_of
returns c = left_end c.loop-place.invariant c.loop-place-test.false
