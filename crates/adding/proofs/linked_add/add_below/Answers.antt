-- Rests on `LinkedAddAnswers`: a block is free, so the highest is found, and once it is added none from it on is free.
use Rattle.adding.proofs.LinkedAddAnswers.{search_ready, sought_block, none_left}
use Rattle.adding.proofs.linked_add.add_below.Goals as goal

pub highest_below-b-requires : goal.highest_below-b-requires
highest_below-b-requires c = let both = search_ready c.requires.ready c.requires.none_from in
    record { blocks_in_bounds = both.0; some_below = both.1 }

pub take_and_add-requires : goal.take_and_add-requires
take_and_add-requires c = record { ready = c.requires.ready; b_value = sought_block c.requires.ready c.requires.none_from c.highest_below-b.ensures }

pub returns : goal.returns
returns c = let block = sought_block c.requires.ready c.requires.none_from c.highest_below-b.ensures in
    record {
      result_value = block;
      img_after = c.take_and_add.ensures.img_after;
      says = c.take_and_add.ensures.says;
      none_from_2 = none_left c.requires.ready block
          c.take_and_add.ensures.img_after c.take_and_add.ensures.says;
    }
