-- Rests on `AppndStage`: each stage decides for the rows behind it, in the order of the table.
use mathlib.Core.Path.{refl, sym, ◌∙◌}
use Rattle.std.proofs.lemmas.Result.{err_from_is_err_and}
use Rattle.answers.specs.Refusals.{code_of}
use Rattle.consistency.proofs.ConsistentTestIff.{opened_good}
use Rattle.appending.proofs.AppndStage.{decided_40, decided_named, decided_missing, decided_forbidden, decided_join}
use Rattle.appending.proofs.appnd.decide_appnd.Goals as goal

pub returns-in_default : goal.returns-in_default
unfolding code_of
returns-in_default c = decided_40 _ _ _ _ _ c.requires c.in_default.is

pub returns-in_err-judge_names : goal.returns-in_err-judge_names
returns-in_err-judge_names c = let p = err_from_is_err_and c.from_residual.result c.from_residual.ensures.1 in
    rw (p.1, p.2) (decided_named _ _ _ _ _ c.requires _ c.in-Some.is _ c.in_err-judge_names.ensures _ refl)

pub invariant_of-find_both : goal.invariant_of-find_both
invariant_of-find_both c = record { sized = (opened_good _ _ (sym c.requires ∙ c.in-Some.is)).2 }

pub returns-in_default-find_both : goal.returns-in_default-find_both
unfolding code_of
returns-in_default-find_both c = decided_missing _ _ _ _ _ c.requires _ c.in-Some.is _ c.in_ok-judge_names.ensures
    refl _ c.in_default-find_both.ensures.value refl

pub returns-in_err-judge_files : goal.returns-in_err-judge_files
returns-in_err-judge_files c = let p = err_from_is_err_and c.from_residual-in_err-judge_files.result c.from_residual-in_err-judge_files.ensures.1 in
    rw (p.1, p.2) (decided_forbidden _ _ _ _ _ c.requires _ c.in-Some.is _ c.in_ok-judge_names.ensures
    refl _ c.in-Some-find_both.ensures.value _ _ _ _ refl _ c.in_err-judge_files.ensures _ refl)

pub returns : goal.returns
returns c = rw c.in-Some-find_both.ensures.measures (decided_join _ _ _ _ _ c.requires _ c.in-Some.is _ c.in_ok-judge_names.ensures
    refl _ c.in-Some-find_both.ensures.value _ _ _ _ refl _ c.in_ok-judge_files.ensures refl)
