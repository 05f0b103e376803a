-- Rests on `DataFetched`: a part that the buffer holds is copied where it is to lie.
use Rattle.binary.proofs.DataFetched.{laid_copied}
use Rattle.binary.proofs.fetching.lay_part.Goals as goal

pub returns-then-end-buffer : goal.returns-then-end-buffer
returns-then-end-buffer c = laid_copied _ _ _ _ c.if-end-buffer.true c.copy_from_slice.ensures.after
