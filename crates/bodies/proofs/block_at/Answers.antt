-- Rests on `BlockWalk`: after so many steps the walk stands at the block of that place, and each block that it comes to is one of the file.
use Rattle.bodies.proofs.BlockWalk.{walk_start, walk_next, walk_inside, walk_end}
use Rattle.bodies.proofs.block_at.Goals as goal

pub loop-init : goal.loop-init
loop-init c = walk_start _ _ _ _ _

pub next_block-at-requires : goal.next_block-at-requires
next_block-at-requires c = record { b_lt_blocks = walk_inside c.args.x c.loop.invariant c.requires.place_lt_length c.requires.by_index }

pub loop-preserved : goal.loop-preserved
loop-preserved c = walk_next c.loop.invariant c.loop-test.true _ c.next_block-at.ensures.result_value

pub returns : goal.returns
returns c = walk_end c.args.x c.loop.invariant c.requires.place_lt_length c.loop-test.false
