-- Rests on `search_ends`: a block is free and not among those that are held, so the search comes to it or to a higher one.
use Rattle.room.proofs.RoomMapRun.{search_ends}
use Rattle.room.proofs.highest_below.Goals as goal

pub returns : goal.returns
returns c = search_ends c.requires.some_below c.skip_held-b.ensures _ c.loop-b.invariant c.requires.blocks_in_bounds.1 c.loop-b-test.false
