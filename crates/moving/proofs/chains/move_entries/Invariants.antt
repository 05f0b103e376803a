-- What the loop of `move_entries` keeps from turn to turn.
use mathlib.Core.Path.{◌≡◌}
use lib.ListN.{length}
use Rattle.moving.specs.MovedParts.{Partly, Walked}
use Rattle.moving.proofs.chains.move_entries.Given as goal

abbrev pub invariant-loop-e : goal.invariant-loop-e
invariant-loop-e l = (length l.target ≡ length l.initial.target) × Partly l.way l.source.img.now l.target l.source.g l.e (Walked l.source.img.now l.source.g l.e 0)
