-- Rests on `AllocBlocks`: whole blocks, or one more that is begun; that is no more than the segments, so that the sum fits.
use Rattle.creation.proofs.AllocBlocks.{blocks_whole, blocks_begun}
use Rattle.creation.proofs.alloc.blocks_for.Goals as goal

pub returns-then-total-size-eq0 : goal.returns-then-total-size-eq0
returns-then-total-size-eq0 c = blocks_whole _ _ c.if-total-size-eq0.true

pub returns : goal.returns
returns c = blocks_begun _ _ c.if-total-size-eq0.false
