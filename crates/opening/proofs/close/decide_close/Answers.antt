-- Rests on `CloseStage`: what `ask_file` refuses is refused, and so is a mode in which the file is not open.
use mathlib.Core.Path.{refl, sym, ◌∙◌}
use Rattle.answers.specs.Refusals.{code_of}
use Rattle.asking.proofs.Verdicts.{carried}
use Rattle.opening.proofs.CloseStage.{decide_refused, decide_other, decide_passed}
use Rattle.opening.proofs.close.decide_close.Goals as goal

pub returns-in_err-found : goal.returns-in_err-found
returns-in_err-found c = rw (carried c.from_residual.ensures.1) (decide_refused _ _ _ _ (rw c.is_wrong.ensures at c.in_err-found.ensures) _ refl)

pub returns-then-not-is_open_as : goal.returns-then-not-is_open_as
unfolding code_of
returns-then-not-is_open_as c = decide_other _ _ _ _ (rw c.is_wrong.ensures at c.in_ok-found.ensures) _ _ _ refl (sym c.is_open_as.ensures ∙ c.if-not-is_open_as.true)

pub returns : goal.returns
returns c = decide_passed _ _ _ _ (rw c.is_wrong.ensures at c.in_ok-found.ensures) _ _ _ refl (sym c.is_open_as.ensures ∙ c.if-not-is_open_as.false)
