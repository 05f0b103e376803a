-- Rests on `TextBytesTests`: TAB and FORM FEED have a byte put after them.
use Rattle.lines.proofs.TextBytesTests.{two_tab, two_form, one_else}
use Rattle.lines.proofs.counting.put_length.Goals as goal

pub returns-then-character-eq-TAB : goal.returns-then-character-eq-TAB
returns-then-character-eq-TAB c = two_tab c.if-character-eq-TAB.true

pub returns-then-character-eq-FORM_FEED : goal.returns-then-character-eq-FORM_FEED
returns-then-character-eq-FORM_FEED c = two_form c.if-character-eq-TAB.false c.if-character-eq-FORM_FEED.true

pub returns : goal.returns
returns c = one_else c.if-character-eq-TAB.false c.if-character-eq-FORM_FEED.false
