-- What the loop of `lay_over` keeps from turn to turn.
use lib.ListN.{length, take}
use mathlib.Core.Path.{◌≡◌}
use Rattle.lines.specs.LineSteps.{laid_all}
use Rattle.binary.proofs.fetching.lay_over.Given as goal

abbrev pub invariant-loop-i : goal.invariant-loop-i
invariant-loop-i l = (length l.buffer ≡ l.most) × (l.buffer ≡ laid_all l.most l.initial.buffer l.count (take l.i l.part))
