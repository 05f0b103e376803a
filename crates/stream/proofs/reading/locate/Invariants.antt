-- What the loop of `locate` keeps from turn to turn, and what falls in each.
use lib.ListN.{drop}
use Rattle.stream.specs.Spot.{payloads_from, Seeking}
use Rattle.stream.proofs.reading.locate.Given as goal

abbrev pub invariant-loop-offset : goal.invariant-loop-offset
invariant-loop-offset l = Seeking l.view.img.now l.view.g (drop l.initial.offset (payloads_from l.view.img.now l.view.g l.initial.left l.initial.block.0)) l.block.0 l.offset l.left

abbrev pub decreases-loop-offset : goal.decreases-loop-offset
decreases-loop-offset l = l.left
