-- Rests on `RemainingWriting`: the digits due in the first places and those written behind them are the digits of the whole number.
use mathlib.Core.Path.{refl, sym, ◌∙◌}
use native.Mathlib.Omega.{arith}
use lib.ListN.{length-set}
use Rattle.numerals.proofs.RemainingWriting.{due_all, due_none, due_less}
use Rattle.numerals.proofs.write_digits.Goals as goal

pub loop-place-init : goal.loop-place-init
loop-place-init c = (refl, due_all c.args.base c.args.number c.args.characters.now)

pub loop-place-preserved : goal.loop-place-preserved
loop-place-preserved c = (
  simp length-set c.loop-place.invariant.0,
  sym (due_less _ _ _ _ (omega arith) (omega arith)) ∙ c.loop-place.invariant.1,
)

pub returns : goal.returns
returns c = sym (due_none _ _ _ _ c.loop-place-test.false) ∙ c.loop-place.invariant.1
