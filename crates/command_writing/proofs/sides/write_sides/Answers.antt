-- Rests on `StandingSides`: the output side, and what the input side comes to where there is one.
use Rattle.command_writing.specs.LaidText.{wrong}
use Rattle.command_writing.proofs.LaidMany.{went, stuck}
use Rattle.command_writing.proofs.StandingSides.{reading_stuck, reading_output, reading_both}
use Rattle.command_writing.proofs.sides.write_sides.Goals as goal

pub returns-in_err-next : goal.returns-in_err-next
returns-in_err-next c = rw c.from_residual.ensures (wrong (reading_stuck _ _ (stuck c.write_side.ensures c.in_err-next.was)))

pub returns-then-inputs-eq0 : goal.returns-then-inputs-eq0
returns-then-inputs-eq0 c = reading_output _ _ c.if-inputs-eq0.true (went c.write_side.ensures c.in_ok-next.was)

pub returns : goal.returns
returns c = reading_both _ _ c.if-inputs-eq0.false (went c.write_side.ensures c.in_ok-next.was) c.put-less.ensures c.write_side-2.ensures
