-- Rests on `RenamStage`: at each return the rows before have passed and one refuses, or none is left.
use mathlib.Core.Path.{refl}
use Rattle.answers.specs.Refusals.{code_of}
use Rattle.asking.proofs.Verdicts.{carried}
use Rattle.directory.proofs.RenamStage.{inconsistent, pack_sized, entry_inside, names_wrong, old_absent, new_exists, old_asked}
use Rattle.directory.proofs.renam.ask_old.Goals as goal

pub returns-in_default : goal.returns-in_default
unfolding code_of
returns-in_default c = inconsistent _ _ _ _ _ c.requires c.in_default.is

pub returns-in_err-judge_names : goal.returns-in_err-judge_names
returns-in_err-judge_names c = rw (carried c.from_residual.ensures.1)
    (names_wrong _ _ _ _ _ c.requires _ c.in-Some.is _ c.in_err-judge_names.ensures _ refl)

pub invariant_of-view : goal.invariant_of-view
invariant_of-view c = record { sized = pack_sized _ _ _ c.requires c.in-Some.is }

pub returns-in_default-find : goal.returns-in_default-find
unfolding code_of
returns-in_default-find c = old_absent _ _ _ _ _ c.requires _ c.in-Some.is _ c.in_ok-judge_names.ensures
    refl _ c.find.ensures c.in_default-find.is

pub returns-in_default-find-2 : goal.returns-in_default-find-2
unfolding code_of
returns-in_default-find-2 c = new_exists _ _ _ _ _ c.requires _ c.in-Some.is _ c.in_ok-judge_names.ensures
    refl _ c.find.ensures _ c.in-Some-find.is _ c.find-2.ensures _ c.in_default-find-2.is

pub read_entry-requires : goal.read_entry-requires
read_entry-requires c = record { e_bound = entry_inside _ _ _ _ _ c.find.ensures c.in-Some-find.is }

pub returns : goal.returns
returns c = old_asked _ _ _ _ _ c.requires _ c.in-Some.is _ c.in_ok-judge_names.ensures
    refl _ c.find.ensures _ c.in-Some-find.is _ c.find-2.ensures
    c.in-None.is _ c.read_entry.ensures.value
