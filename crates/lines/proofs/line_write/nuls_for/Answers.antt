-- Rests on `LineWritingAnswers`: the NULs are as many as a payload has places left.
use native.Mathlib.Omega.{arith}
use Rattle.lines.proofs.LineWritingAnswers.{nuls_left, nuls_few, nuls_over}
use Rattle.lines.proofs.line_write.nuls_for.Goals as goal

pub returns-then-size-filled : goal.returns-then-size-filled
returns-then-size-filled c = record { filled_value = nuls_over _ c.payload_bytes_of-size.ensures _ c.if-filled-eq0.false c.if-size-filled.true; upper_bound = omega arith }

pub returns : goal.returns
returns c = record { filled_value = nuls_left _ c.payload_bytes_of-size.ensures _ c.if-filled-eq0.false; upper_bound = nuls_few _ c.payload_bytes_of-size.ensures _ c.if-filled-eq0.false }
