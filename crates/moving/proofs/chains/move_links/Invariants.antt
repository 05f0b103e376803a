-- What the loop of `move_links` keeps from turn to turn.
use mathlib.Core.Path.{◌≡◌}
use lib.ListN.{length}
use Rattle.moving.specs.LinkWalk.{LinkWalk}
use Rattle.moving.proofs.chains.move_links.Given as goal

abbrev pub invariant-loop : goal.invariant-loop
invariant-loop l = (length l.target ≡ length l.initial.target)
    × LinkWalk l.way l.source.img.now l.target l.source.g l.e l.initial.at.0 l.count l.counter l.at.0
