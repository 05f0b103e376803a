-- Rests on `OpenStage`: what `ask_file` refuses is refused, and of a file that is found `judge_opening` says the rest.
use mathlib.Core.Path.{refl}
use Rattle.asking.proofs.Verdicts.{carried}
use Rattle.opening.proofs.OpenStage.{decide_refused, decide_stopped, decide_passed}
use Rattle.opening.proofs.opens.decide_open.Goals as goal

pub returns-in_err-found : goal.returns-in_err-found
returns-in_err-found c = rw (carried c.from_residual.ensures.1) (decide_refused _ _ _ _ _ c.in_err-found.ensures _ refl)

pub returns-in_err-judge_opening : goal.returns-in_err-judge_opening
returns-in_err-judge_opening c = rw (carried c.from_residual-in_err-judge_opening.ensures.1)
    (decide_stopped _ _ _ _ _ c.in_ok-found.ensures _ _ _ refl _ c.in_err-judge_opening.ensures _ refl)

pub returns : goal.returns
returns c = decide_passed _ _ _ _ _ c.in_ok-found.ensures _ _ _ refl _ c.in_ok-judge_opening.ensures refl
