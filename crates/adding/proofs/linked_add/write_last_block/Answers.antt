-- Rests on `block_with_by`: a link 0 set and a payload written behind it make the block that is joined; both callees keep the length.
use Rattle.adding.proofs.LinkedAddWrites.{block_with_by}
use Rattle.adding.proofs.linked_add.write_last_block.Goals as goal

pub returns : goal.returns
returns c = block_with_by _ c.args.g c.args.b.0 _ _ _ c.set_link.ensures c.write_part.ensures
