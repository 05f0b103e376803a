-- Rests on `lay_within` and `lay_all`, whichever it calls.
use Rattle.stream.proofs.writing.lay_bytes.Goals as goal

pub returns-then-bytes-gather : goal.returns-then-bytes-gather
returns-then-bytes-gather c = c.lay_within.ensures.laying _ _ _ _ _
