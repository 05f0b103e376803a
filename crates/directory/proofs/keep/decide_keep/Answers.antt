-- Rests on `KeepStage`: at each return the rows before have passed and one refuses, or none is left.
use mathlib.Core.Path.{refl}
use Rattle.answers.specs.Refusals.{code_of}
use Rattle.asking.proofs.Verdicts.{carried}
use Rattle.directory.proofs.KeepStage.{decide_refused, decide_denied, decide_granted}
use Rattle.directory.proofs.keep.decide_keep.Goals as goal

pub returns-in_err-found : goal.returns-in_err-found
returns-in_err-found c = rw (carried c.from_residual.ensures.1) (decide_refused _ _ _ _ c.in_err-found.ensures _ refl)

pub returns-then-caller-found : goal.returns-then-caller-found
unfolding code_of
returns-then-caller-found c = decide_denied _ _ _ _ c.in_ok-found.ensures _ _ _ refl c.if-caller-found.true

pub returns : goal.returns
returns c = decide_granted _ _ _ _ c.in_ok-found.ensures _ _ _ refl c.if-caller-found.false
