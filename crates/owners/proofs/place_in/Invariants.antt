-- What the loop of `place_in` keeps from turn to turn.
use Rattle.owners.proofs.OwnerSearch.{Left}
use Rattle.owners.proofs.place_in.Given as goal

abbrev pub invariant-loop-place : goal.invariant-loop-place
invariant-loop-place l = Left l.view.img.now l.view.g l.x.kind l.x.length l.initial.at.0 l.b.0 l.place l.at.0
