-- What the loop of `read_payload` keeps from turn to turn.
use Rattle.lines.specs.LineSteps.{read_from}
use Rattle.lines.specs.Reader.{PartReading}
use Rattle.lines.proofs.line_read.read_payload.Given as goal

abbrev pub invariant-loop-i : goal.invariant-loop-i
invariant-loop-i l = PartReading l.mode l.most l.initial.count l.passed l.part (read_from l.mode l.most l.initial.buffer l.initial.count l.passed l.part) l.buffer l.count l.i
