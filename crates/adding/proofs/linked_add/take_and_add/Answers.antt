-- Rests on `LinkedAddAnswers`: taken the block is cleared, all of it is then written, and once added it is held once.
use Rattle.adding.proofs.LinkedAddAnswers.{take_ready, block_addable, block_done}
use Rattle.adding.proofs.linked_add.take_and_add.Goals as goal

pub take_block-requires : goal.take_block-requires
take_block-requires c = let both = take_ready c.requires.ready c.requires.b_value in
    record { sized = both.0; blocks_in_bounds = both.1 }

pub add_block-requires : goal.add_block-requires
add_block-requires c = block_addable c.requires.ready c.requires.b_value _ c.take_block.ensures.img_after

pub returns : goal.returns
returns c = let both = block_done c.requires.ready c.requires.b_value _ c.take_block.ensures.img_after _ c.add_block.ensures _ c.take_block.ensures.map_after in
    record { img_after = both.0; says = both.1 }
