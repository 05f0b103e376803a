-- Rests on `CursorAtSteps` and `Classes`: each letter and each digit takes the run one on, any other character ends it.
use Rattle.command_cursor.proofs.Classes.{high_named, high_other, low_named}
use Rattle.command_cursor.proofs.CursorAtSteps.{runs_over, runs_halt, runs_on, runs_end}
use Rattle.command_cursor.proofs.Cursor.named.Goals.{then-character-ge65+else-character-gt90, else-character-ge65+else-not-is_ascii_digit}
use Rattle.command_cursor.proofs.Cursor.named.Goals as goal

pub returns-then-line-here : goal.returns-then-line-here
returns-then-line-here c = runs_over _ _ _ _ c.loop.invariant c.if-line-here.true

pub returns-then-character-gt90 : goal.returns-then-character-gt90
returns-then-character-gt90 c = runs_halt _ _ _ _ c.loop.invariant c.if-line-here.false (high_other _ c.if-character-gt90.true)

pub returns-then-not-is_ascii_digit : goal.returns-then-not-is_ascii_digit
returns-then-not-is_ascii_digit c =
    runs_halt _ _ _ _ c.loop.invariant c.if-line-here.false (low_named _ c.if-character-ge65.false c.is_ascii_digit.ensures.value c.if-not-is_ascii_digit.true)

pub loop-preserved : goal.loop-preserved
loop-preserved c = runs_on _ _ _ _ c.loop.invariant c.loop-test.true c.if-line-here.false
    (elim c.if-character-ge65.branch [
      | then-character-ge65+else-character-gt90 w ↦ high_named _ w.if-character-ge65.true w.if-character-gt90.false
      | else-character-ge65+else-not-is_ascii_digit w ↦ low_named _ w.if-character-ge65.false w.is_ascii_digit.ensures.value w.if-not-is_ascii_digit.false
    ])

pub returns : goal.returns
returns c = runs_end _ _ _ _ c.loop.invariant c.loop-test.false
