-- What the loop of `block_at` keeps from turn to turn.
use Rattle.bodies.specs.BlockWalk.{BlockWalk}
use Rattle.bodies.proofs.block_at.Given as goal

abbrev pub invariant-loop : goal.invariant-loop
invariant-loop l = BlockWalk l.view.img.now l.view.g l.fn.x.kind l.fn.x.first.0 l.fn.place.0 l.counter l.at.0
