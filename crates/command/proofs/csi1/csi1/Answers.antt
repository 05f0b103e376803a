-- Rests on `Csi1Stage`: a law for each return, from what `condense` laid and what `write_line` did, with the tests before it against it.
use Rattle.command.proofs.Csi1Stage.{raw_long, condensed_long, no_room, line_written}
use Rattle.command.proofs.csi1.csi1.Goals as goal

pub returns-then-line-gt-RAW_LIMIT : goal.returns-then-line-gt-RAW_LIMIT
returns-then-line-gt-RAW_LIMIT c = raw_long _ _ c.if-line-gt-RAW_LIMIT.true

pub returns-then-end-gt-LINE_LIMIT : goal.returns-then-end-gt-LINE_LIMIT
returns-then-end-gt-LINE_LIMIT c = condensed_long _ c.condense-end.ensures c.if-end-gt-LINE_LIMIT.true

pub returns-then-buffer-end : goal.returns-then-buffer-end
returns-then-buffer-end c = no_room _ c.condense-end.ensures c.if-line-gt-RAW_LIMIT.false c.if-end-gt-LINE_LIMIT.false c.if-buffer-end.true

pub returns : goal.returns
returns c = line_written _ c.condense-end.ensures c.if-line-gt-RAW_LIMIT.false c.if-end-gt-LINE_LIMIT.false c.if-buffer-end.false
    c.write_line.ensures
