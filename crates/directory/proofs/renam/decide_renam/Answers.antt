-- Rests on `RenamStage`: the stage before refuses, or what is asked of the file does, or nothing.
use mathlib.Core.Path.{refl}
use Rattle.asking.proofs.Verdicts.{carried}
use Rattle.directory.proofs.RenamStage.{decide_refused, decide_stopped, decide_passed}
use Rattle.directory.proofs.renam.decide_renam.Goals as goal

pub returns-in_err-found : goal.returns-in_err-found
returns-in_err-found c = rw (carried c.from_residual.ensures.1) (decide_refused _ _ _ _ _ _ c.in_err-found.ensures _ refl)

pub returns-in_err-judge_permit : goal.returns-in_err-judge_permit
returns-in_err-judge_permit c = rw (carried c.from_residual-in_err-judge_permit.ensures.1)
    (decide_stopped _ _ _ _ _ _ c.in_ok-found.ensures _ _ _ refl _ c.in_err-judge_permit.ensures _ refl)

pub returns : goal.returns
returns c = decide_passed _ _ _ _ _ _ c.in_ok-found.ensures _ _ _ refl _ c.in_ok-judge_permit.ensures refl
