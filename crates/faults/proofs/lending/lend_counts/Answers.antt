-- Each array is one of zeros, with a place for each block.
use mathlib.Core.Path.{refl}
use native.Mathlib.Omega.{arith}
use Rattle.faults.proofs.lending.lend_counts.Goals as goal

pub run-requires-2 : goal.run-requires-2
run-requires-2 g c = c.requires.callable _ refl (omega (arith, c.args.view.sized.most))
