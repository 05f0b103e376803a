-- Rests on `AccessStage`: what `ask_file` refuses is refused, and of a file that is found the rows of access decide.
use mathlib.Core.Path.{refl}
use lib.Dec.{eqb}
use Rattle.std.proofs.lemmas.Result.{err_from_is_err_and}
use Rattle.asking.proofs.AccessStage.{access_refused, access_stopped, access_passed}
use Rattle.transfer.proofs.linked_read.ask_linked_read.Goals as goal

pub returns-in_err-found : goal.returns-in_err-found
returns-in_err-found c = let p = err_from_is_err_and c.from_residual.result c.from_residual.ensures.1 in
    rw (p.1, p.2) (access_refused _ _ _ _ _ _ (λ x. eqb x.readers 0) _ c.in_err-found.ensures _ refl)

pub returns-in_err-judge_access : goal.returns-in_err-judge_access
returns-in_err-judge_access c = let p = err_from_is_err_and c.from_residual-in_err-judge_access.result c.from_residual-in_err-judge_access.ensures.1 in
    rw (p.1, p.2) (access_stopped _ _ _ _ _ _ (λ x. eqb x.readers 0) _ c.in_ok-found.ensures _ _ _ refl _ refl _
    c.in_err-judge_access.ensures _ refl)

pub returns : goal.returns
returns c = access_passed _ _ _ _ _ _ (λ x. eqb x.readers 0) _ c.in_ok-found.ensures _ _ _ refl _ refl _
    c.in_ok-judge_access.ensures refl
