-- Rests on `OpenoStage`: a refusal of the stage is the request's, and else the entry written is OPENO's.
use mathlib.Core.Path.{refl}
use borrow.Author.Rules.{rules}
use Rattle.std.proofs.lemmas.Result.{err_from_is_err_and}
use Rattle.answers.specs.Refusals.{code_in}
use Rattle.creation.proofs.OpenoStage.{openo_denied, openo_ready, openo_done}
use Rattle.creation.proofs.openo.openo_opened.Goals as goal

pub enter-requires : goal.enter-requires
enter-requires c =
    let r = openo_ready _ _ _ _ _ c.in_ok-slot.ensures _ _ refl (λ i. search rules) in
    record { sized = r.0; e_bound = r.1 }

pub returns-in_err-slot : goal.returns-in_err-slot
unfolding code_in
returns-in_err-slot c =
    let r = openo_denied _ _ _ _ _ c.in_err-slot.ensures _ refl in
    let p = err_from_is_err_and c.from_residual.result c.from_residual.ensures.1 in
    record { value = rw (p.1, p.2) r.0; img_after = r.1 }

pub returns : goal.returns
unfolding code_in
returns c =
    let r = openo_done _ _ _ _ _ c.in_ok-slot.ensures _ _ refl _ c.enter.ensures in
    record { value = r.0; img_after = r.1 }
