-- Rests on `LaidNames`: nothing of a unit 0, else its octal digits.
use Rattle.command_writing.proofs.LaidPieces.{puts_nothing}
use Rattle.command_writing.proofs.LaidNames.{unit_nothing, unit_some}
use Rattle.command_writing.proofs.laying.put_unit.Goals as goal

pub returns-then-unit-eq0 : goal.returns-then-unit-eq0
returns-then-unit-eq0 c = unit_nothing c.if-unit-eq0.true puts_nothing

pub returns : goal.returns
returns c = unit_some c.if-unit-eq0.false c.put_octal.ensures
