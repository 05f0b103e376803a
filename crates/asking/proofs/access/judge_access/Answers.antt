-- Rests on `AccessRows`: each return gives the code of the first row that holds, the rows before it being passed.
use Rattle.answers.specs.Refusals.{code_of}
use Rattle.asking.proofs.Verdicts.{carried, right_given}
use Rattle.asking.proofs.AccessRows.{access_6, access_43, access_45, access_clear}
use Rattle.asking.proofs.access.judge_access.Goals as goal

pub returns-in_err-ask_right : goal.returns-in_err-ask_right
returns-in_err-ask_right c = rw (carried c.from_residual.ensures.1) (access_6 _ _ _ _ _ c.ask_right.ensures c.in_err-ask_right.was)

pub returns-then-x-other : goal.returns-then-x-other
unfolding code_of
returns-then-x-other c = access_43 _ _ _ _ _ (right_given c.ask_right.ensures c.in_ok-ask_right.was) c.if-x-other.true

pub returns-then-closed : goal.returns-then-closed
unfolding code_of
returns-then-closed c = access_45 _ _ _ _ _ (right_given c.ask_right.ensures c.in_ok-ask_right.was) c.if-x-other.false c.if-closed.true

pub returns : goal.returns
returns c = access_clear _ _ _ _ _ (right_given c.ask_right.ensures c.in_ok-ask_right.was) c.if-x-other.false c.if-closed.false
