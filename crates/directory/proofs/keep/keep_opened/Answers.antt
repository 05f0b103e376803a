-- Rests on `KeepStage`: the decision's code and image are the request's, and the protect code of a file that it found can be set.
use mathlib.Core.Path.{refl}
use Rattle.answers.specs.Refusals.{code_in}
use Rattle.asking.proofs.Verdicts.{carried}
use Rattle.directory.proofs.KeepStage.{keeping_refused, keeping_small, keeping_room, keeping_done}
use Rattle.directory.proofs.keep.keep_opened.Goals as goal

pub returns-in_err-found : goal.returns-in_err-found
unfolding code_in
returns-in_err-found c = let both = keeping_refused _ _ _ _ c.in_err-found.ensures _ refl in
    record { value = rw (carried c.from_residual.ensures.1) both.0; img_after = both.1 }

pub kept_code-protect-requires : goal.kept_code-protect-requires
kept_code-protect-requires c = keeping_small _ _ _ _ c.in_ok-found.ensures _ _ _ refl

pub set_entry_word-requires : goal.set_entry_word-requires
set_entry_word-requires c = let both = keeping_room _ _ _ _ c.in_ok-found.ensures _ _ _ refl _ c.kept_code-protect.ensures in
    record { sized = both.0; e_bound = both.1 }

pub returns : goal.returns
unfolding code_in
returns c = let both = keeping_done _ _ _ _ c.in_ok-found.ensures _ _ _ refl _ c.kept_code-protect.ensures _ c.set_entry_word.ensures in
    record { value = both.0; img_after = both.1 }
