-- Rests on `LookedHeader`: the segments stated.
use Rattle.faults.proofs.LookedHeader.{stated_none, stated_form}
use Rattle.faults.proofs.headers.stated.Goals as goal

pub returns-then-segments-eq0 : goal.returns-then-segments-eq0
returns-then-segments-eq0 c = stated_none _ c.segments_of-segments.ensures c.if-segments-eq0.true

pub returns : goal.returns
returns c = stated_form _ c.segments_of-segments.ensures c.if-segments-eq0.false
