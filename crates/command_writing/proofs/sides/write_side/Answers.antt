-- Rests on `StandingSides`: one specification, and what those behind it come to.
use Rattle.command_writing.specs.LaidText.{wrong}
use Rattle.command_writing.proofs.LaidMany.{went, stuck}
use Rattle.command_writing.proofs.StandingSides.{side_empty, side_stuck, side_laid}
use Rattle.command_writing.proofs.sides.write_side.Goals as goal

pub returns-then-specifications-eq0 : goal.returns-then-specifications-eq0
returns-then-specifications-eq0 c = wrong (side_empty c.if-specifications-eq0.true)

pub returns-in_err-next : goal.returns-in_err-next
returns-in_err-next c = rw c.from_residual.ensures (wrong (side_stuck c.if-specifications-eq0.false (stuck c.write_specification.ensures c.in_err-next.was)))

pub returns : goal.returns
returns c = side_laid c.if-specifications-eq0.false (went c.write_specification.ensures c.in_ok-next.was) c.write_repeated.ensures
