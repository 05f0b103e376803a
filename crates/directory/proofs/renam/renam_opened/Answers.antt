-- Rests on `RenamStage`: the decision's code and image are the request's, and legal names fit into the entry of the file that it found.
use mathlib.Core.Path.{refl}
use Rattle.answers.specs.Refusals.{code_in}
use Rattle.asking.proofs.Verdicts.{carried}
use Rattle.directory.proofs.RenamStage.{renaming_refused, renaming_room, renaming_done}
use Rattle.directory.proofs.renam.renam_opened.Goals as goal

pub returns-in_err-found : goal.returns-in_err-found
unfolding code_in
returns-in_err-found c = let both = renaming_refused _ _ _ _ _ _ c.in_err-found.ensures _ refl in
    record { value = rw (carried c.from_residual.ensures.1) both.0; img_after = both.1 }

pub write_name-requires : goal.write_name-requires
write_name-requires c = let all = renaming_room _ _ _ _ _ _ c.in_ok-found.ensures _ _ _ refl in
    record { sized = all.0; e_bound = all.1.0; name1_bound = all.1.1 }

pub returns : goal.returns
unfolding code_in
returns c = let both = renaming_done _ _ _ _ _ _ c.in_ok-found.ensures _ _ _ refl _ c.write_name.ensures in
    record { value = both.0; img_after = both.1 }
