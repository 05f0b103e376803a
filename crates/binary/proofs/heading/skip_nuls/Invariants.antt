-- What the loop of `skip_nuls` keeps from turn to turn, and what falls in each.
use lib.ListN.{length}
use Rattle.stream.specs.Tail.{rest, ReadFrom}
use Rattle.binary.specs.Heading.{Skipping}
use Rattle.binary.proofs.heading.skip_nuls.Given as goal

abbrev pub invariant-loop-tail : goal.invariant-loop-tail
invariant-loop-tail l = Skipping (rest l.initial.tail) l.nuls l.tail × ReadFrom l.initial.tail.img.now l.initial.tail.g l.tail

abbrev pub decreases-loop-tail : goal.decreases-loop-tail
decreases-loop-tail l = length (rest l.tail)
