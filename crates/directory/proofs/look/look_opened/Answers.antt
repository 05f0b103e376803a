-- Rests on `LookStage`: what LOOK answers when the first stage refuses, and when it found the file.
use mathlib.Core.Path.{refl, sym}
use Rattle.asking.proofs.AskedStage.{asked_entry}
use Rattle.asking.proofs.Verdicts.{carried}
use Rattle.directory.proofs.LookStage.{look_refused, look_file}
use Rattle.directory.proofs.look.look_opened.Goals as goal

pub returns-in_err-found-clause-outcome : goal.returns-in_err-found-clause-outcome
returns-in_err-found-clause-outcome c = rw (carried c.from_residual.ensures.1) (look_refused _ _ _ c.in_err-found.ensures _ refl)

pub returns-clause-outcome : goal.returns-clause-outcome
returns-clause-outcome c = look_file _ _ _ c.in_ok-found.ensures _ _ _ refl

pub returns-clause-entry : goal.returns-clause-entry
returns-clause-entry c = asked_entry _ _ _ _ _ _ (sym c.in_ok-found.ensures)
