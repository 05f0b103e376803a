-- Rests on `part_alone`: where a byte was counted for each character, nothing is put after any.
use mathlib.Core.Bool.{false≢true}
use Rattle.lines.proofs.LineWriteCounted.{part_alone}
use Rattle.lines.proofs.line_write.may_copy.Goals as goal

pub returns-then-part-ne-STRIDE : goal.returns-then-part-ne-STRIDE
returns-then-part-ne-STRIDE c = λ never. absurd (false≢true never)

pub returns-then-room-le-STRIDE : goal.returns-then-room-le-STRIDE
returns-then-room-le-STRIDE c = λ never. absurd (false≢true never)

pub returns : goal.returns
returns c = part_alone c.if-part-ne-STRIDE.false c.if-room-le-STRIDE.false c.count_part.ensures
