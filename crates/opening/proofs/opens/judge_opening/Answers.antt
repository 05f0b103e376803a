-- Rests on `OpenRows`: a file that is being created and a right that is lacking refuse; behind them `judge_mode` says the rest.
use mathlib.Core.Path.{refl}
use Rattle.answers.specs.Refusals.{code_of}
use Rattle.asking.proofs.Verdicts.{carried, right_given}
use Rattle.opening.proofs.OpenRows.{opening_2, opening_6, opening_mode}
use Rattle.opening.proofs.opens.judge_opening.Goals as goal

pub returns-then-x-eq2 : goal.returns-then-x-eq2
unfolding code_of
returns-then-x-eq2 c = opening_2 c.args.mode _ c.args.x c.if-x-eq2.true

pub returns-in_err-ask_right : goal.returns-in_err-ask_right
returns-in_err-ask_right c = rw (carried c.from_residual.ensures.1)
    (opening_6 c.args.mode _ c.args.x c.if-x-eq2.false _ c.right.ensures _ c.in_err-ask_right.ensures _ refl)

pub returns : goal.returns
returns c = opening_mode c.args.mode _ c.args.x c.if-x-eq2.false _ c.right.ensures (right_given c.ask_right.ensures c.in_ok-ask_right.was) _ c.judge_mode.ensures
