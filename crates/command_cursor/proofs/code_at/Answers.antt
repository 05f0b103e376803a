-- Rests on `FilledWord` and `Classes`: from the end on a blank, whose code is 0; before it a letter or a digit, each with its code below 40.
use Rattle.command_cursor.proofs.Classes.{high_code, low_code}
use Rattle.command_cursor.proofs.FilledWord.{code_behind, code_here}
use Rattle.command_cursor.proofs.code_at.Goals as goal

pub returns-then-end-place-clause-value : goal.returns-then-end-place-clause-value
returns-then-end-place-clause-value c = (code_behind _ _ _ c.if-end-place.true).0

pub returns-then-character-ge65-clause-value : goal.returns-then-character-ge65-clause-value
returns-then-character-ge65-clause-value c = (code_here _ _ _ c.if-end-place.false (high_code _ c.if-character-ge65.true (c.requires.place_value c.if-end-place.false))).0

pub returns-else-character-ge65-clause-value : goal.returns-else-character-ge65-clause-value
returns-else-character-ge65-clause-value c =
    let known = low_code _ c.if-character-ge65.false (c.requires.place_value c.if-end-place.false) in
    (code_here _ _ _ c.if-end-place.false (known.0, known.1)).0
