-- Rests on `OpenStage`: the decision's code and image are the request's, and the writer or the readers of a file that it found can be set.
use mathlib.Core.Path.{refl}
use Rattle.answers.specs.Refusals.{code_in}
use Rattle.asking.proofs.Verdicts.{carried}
use Rattle.opening.proofs.OpenStage.{opening_refused, opening_few, opening_room, opening_done}
use Rattle.opening.proofs.opens.open_opened.Goals as goal

pub returns-in_err-found : goal.returns-in_err-found
unfolding code_in
returns-in_err-found c = let both = opening_refused _ _ _ _ _ c.in_err-found.ensures _ refl in
    record { value = rw (carried c.from_residual.ensures.1) both.0; img_after = both.1 }

pub value-value-requires : goal.value-value-requires
value-value-requires c = opening_few _ _ _ _ _ c.in_ok-found.ensures _ _ _ refl

pub set_entry_word-requires : goal.set_entry_word-requires
set_entry_word-requires c = let both = opening_room _ _ _ _ _ c.in_ok-found.ensures _ _ _ refl _ _ c.word.ensures c.value-value.ensures in
    record { sized = both.0; e_bound = both.1 }

pub returns : goal.returns
unfolding code_in
returns c = let both = opening_done _ _ _ _ _ c.in_ok-found.ensures _ _ _ refl _ _ c.word.ensures c.value-value.ensures _ c.set_entry_word.ensures in
    record { value = both.0; img_after = both.1 }
