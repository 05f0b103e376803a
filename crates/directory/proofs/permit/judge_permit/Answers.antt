-- Rests on `PermitStage`: each return judges as the first row that holds, the rows before it being passed.
use Rattle.answers.specs.Refusals.{code_of}
use Rattle.asking.proofs.Verdicts.{carried, front_refused, right_given}
use Rattle.directory.proofs.PermitStage.{permit_open, permit_clear}
use Rattle.directory.proofs.permit.judge_permit.Goals as goal

pub returns-in_err-ask_right : goal.returns-in_err-ask_right
returns-in_err-ask_right c = rw (carried c.from_residual.ensures.1) (front_refused _ _ c.ask_right.ensures c.in_err-ask_right.was)

pub returns-then-is_open : goal.returns-then-is_open
unfolding code_of
returns-then-is_open c = permit_open _ _ _ (right_given c.ask_right.ensures c.in_ok-ask_right.was) _ c.is_open.ensures c.if-is_open.true

pub returns : goal.returns
returns c = permit_clear _ _ _ (right_given c.ask_right.ensures c.in_ok-ask_right.was) _ c.is_open.ensures c.if-is_open.false
