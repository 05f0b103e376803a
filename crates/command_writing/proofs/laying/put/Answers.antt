-- Rests on `LaidPieces`: a character inside the line is set, at its end it is counted once, and behind that nothing changes.
use Rattle.command_writing.proofs.LaidPieces.{put_inside, put_behind, put_full}
use Rattle.command_writing.proofs.laying.put.Goals as goal

pub returns-then-count-line : goal.returns-then-count-line
returns-then-count-line c = put_inside _ _ _ c.if-count-line.true

pub returns-then-line-count : goal.returns-then-line-count
returns-then-line-count c = put_behind _ _ _ c.if-line-count.true

pub returns : goal.returns
returns c = put_full _ _ _ c.if-count-line.false c.if-line-count.false
