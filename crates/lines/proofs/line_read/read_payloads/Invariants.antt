-- What the loop of `read_payloads` keeps from turn to turn, and what falls in each.
use lib.ListN.{length}
use Rattle.stream.specs.Tail.{rest}
use Rattle.lines.specs.LineSteps.{read_from}
use Rattle.lines.specs.Reader.{Following}
use Rattle.lines.proofs.line_read.read_payloads.Given as goal

abbrev pub invariant-loop-tail : goal.invariant-loop-tail
invariant-loop-tail l = Following l.mode (length l.initial.buffer) (read_from l.mode (length l.initial.buffer) l.initial.buffer 0 0
    (rest l.initial.tail)) l.buffer l.reader.count l.reader.passed l.tail

abbrev pub decreases-loop-tail : goal.decreases-loop-tail
decreases-loop-tail l = length (rest l.tail)
