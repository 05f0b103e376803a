-- Rests on `UnpackingWeights`: the weights that are left decide what all of them make of the word.
use mathlib.Core.Path.{sym, ap, ◌∙◌}
use native.Mathlib.Omega.{arith}
use Rattle.radix.specs.Unpacking.{weights, through}
use Rattle.radix.proofs.UnpackingWeights.{word_lifted, through_next, through_end}
use Rattle.radix.proofs.unpacking.take_weights.Goals as goal

pub loop-weight-preserved : goal.loop-weight-preserved
loop-weight-preserved c = (omega arith, c.loop-weight.invariant.1 ∙ through_next _ _ _ c.loop-weight-test.true c.take_away-held.ensures)

pub returns : goal.returns
returns c = sym (through_end _ _ _ c.loop-weight-test.false) ∙ (sym c.loop-weight.invariant.1 ∙ ap (through weights 2048) (word_lifted c.requires))
