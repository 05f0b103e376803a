-- Rests on `FillingLoop`: the part of the buffer behind the filled bytes is overwritten, and there is room behind it.
use Rattle.stream.proofs.FillingLoop.{within_whole}
use Rattle.stream.proofs.writing.lay_within.Goals as goal

pub returns : goal.returns
returns c = rw c.copy_from_slice.ensures.after (within_whole _ _ _ c.requires)
