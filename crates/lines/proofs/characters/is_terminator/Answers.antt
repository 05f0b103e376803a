-- Rests on `TextBytesTests`: the three characters that end a line, one after another.
use Rattle.lines.proofs.TextBytesTests.{ends_feed, ends_vertical, ends_form}
use Rattle.lines.proofs.characters.is_terminator.Goals as goal

pub returns-then-character-eq-LINE_FEED : goal.returns-then-character-eq-LINE_FEED
returns-then-character-eq-LINE_FEED c = ends_feed c.if-character-eq-LINE_FEED.true

pub returns-then-character-eq-VERTICAL_TAB : goal.returns-then-character-eq-VERTICAL_TAB
returns-then-character-eq-VERTICAL_TAB c = ends_vertical c.if-character-eq-LINE_FEED.false c.if-character-eq-VERTICAL_TAB.true

pub returns : goal.returns
returns c = ends_form c.if-character-eq-LINE_FEED.false c.if-character-eq-VERTICAL_TAB.false
