-- Rests on `FillingLoop`: the byte at the index is the first of those that are left, and each can be laid.
use mathlib.Core.Path.{◌∙◌}
use Rattle.stream.proofs.FillingLoop.{index_layable, index_next}
use Rattle.stream.proofs.writing.lay_all.Goals as goal

pub lay-at-requires : goal.lay-at-requires
lay-at-requires c = index_layable c.loop-byte.invariant.1 c.requires c.loop-byte-test.true

pub loop-byte-preserved : goal.loop-byte-preserved
loop-byte-preserved c = (
  (c.lay-at.auto.img ∙ c.loop-byte.invariant.0.0, c.lay-at.auto.map ∙ c.loop-byte.invariant.0.1, c.lay-at.auto.gather ∙ c.loop-byte.invariant.0.2),
  index_next c.loop-byte.invariant.1 c.loop-byte-test.true c.lay-at.ensures.gather_after c.lay-at.ensures.laid_byte,
)
