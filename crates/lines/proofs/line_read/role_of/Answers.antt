-- Rests on `ReaderRole`: NUL, RUBOUT and the terminators stand at the ends of what the tests part.
use Rattle.lines.proofs.ReaderRole.{rubout_discarded, nul_discarded, high_plain, low_terminator, low_plain}
use Rattle.lines.proofs.line_read.role_of.Goals as goal

pub returns-then-character-eq-RUBOUT : goal.returns-then-character-eq-RUBOUT
returns-then-character-eq-RUBOUT c = rubout_discarded c.if-character-eq-RUBOUT.true

pub returns-then-character-gt-FORM_FEED : goal.returns-then-character-gt-FORM_FEED
returns-then-character-gt-FORM_FEED c = high_plain c.if-character-gt-FORM_FEED.true c.if-character-eq-RUBOUT.false

pub returns-then-character-eq-NUL : goal.returns-then-character-eq-NUL
returns-then-character-eq-NUL c = nul_discarded c.if-character-eq-NUL.true

pub returns-then-character-ge-LINE_FEED : goal.returns-then-character-ge-LINE_FEED
returns-then-character-ge-LINE_FEED c = low_terminator c.if-character-gt-FORM_FEED.false c.if-character-eq-NUL.false c.if-character-ge-LINE_FEED.true

pub returns : goal.returns
returns c = low_plain c.if-character-gt-FORM_FEED.false c.if-character-eq-NUL.false c.if-character-ge-LINE_FEED.false
