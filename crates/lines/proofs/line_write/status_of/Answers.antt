-- Rests on `LineWrite`: the status goes by the last character, or there is none.
use Rattle.lines.proofs.LineWrite.{status_none, status_ended, status_other}
use Rattle.lines.proofs.line_write.status_of.Goals as goal

pub returns-then-count-eq0 : goal.returns-then-count-eq0
returns-then-count-eq0 c = status_none c.args.taken.now c.if-count-eq0.true

pub returns-then-is_terminator : goal.returns-then-is_terminator
returns-then-is_terminator c = status_ended c.args.taken.now c.is_terminator.ensures c.if-is_terminator.true

pub returns : goal.returns
returns c = status_other c.args.taken.now c.is_terminator.ensures c.if-is_terminator.false
