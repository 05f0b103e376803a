-- Rests on `AllocStage`: a refusal of the stage is the request's; where it chose an extent, its last block is one of the pack, the entry
-- written is ALLOC's, and the blocks of the run are free on the map, so that they can be taken.
use mathlib.Core.Path.{refl}
use native.Mathlib.Omega.{arith}
use borrow.Author.Rules.{rules}
use Rattle.std.proofs.lemmas.Result.{err_from_is_err_and}
use Rattle.answers.specs.Refusals.{code_in}
use Rattle.creation.proofs.AllocStage.{alloc_denied, alloc_last, alloc_ready, alloc_run, alloc_done}
use Rattle.creation.proofs.alloc.alloc_opened.Goals as goal

pub overflow_add-shape : goal.overflow_add-shape
overflow_add-shape c = omega (arith, alloc_last _ _ _ _ _ _ c.in_ok-slot.ensures _ _ _ _ refl)

pub overflow_sub-shape : goal.overflow_sub-shape
overflow_sub-shape c = (alloc_last _ _ _ _ _ _ c.in_ok-slot.ensures _ _ _ _ refl).0

pub enter-requires : goal.enter-requires
enter-requires c =
    let r = alloc_ready _ _ _ _ _ _ c.in_ok-slot.ensures _ _ _ _ refl (λ i. search rules) in
    record { sized = r.0; e_bound = r.1 }

pub take_run-requires : goal.take_run-requires
take_run-requires c =
    let r = alloc_run _ _ _ _ _ _ c.in_ok-slot.ensures _ _ _ _ refl _ c.requires.mapped_if _ c.enter.auto.img in
    record { sized = r.0; blocks_in_bounds = r.1.0; by_index = r.1.1 }

pub returns-in_err-slot : goal.returns-in_err-slot
unfolding code_in
returns-in_err-slot c =
    let r = alloc_denied _ _ _ _ _ _ c.in_err-slot.ensures _ refl c.args.map.now in
    let p = err_from_is_err_and c.from_residual.result c.from_residual.ensures.1 in
    record { code_value = rw (p.1, p.2) r.0; number_value = rw p.1 r.1.0; img_after = r.1.1.0; map_after = r.1.1.1 }

pub returns : goal.returns
unfolding code_in
returns c =
    let r = alloc_done _ _ _ _ _ _ c.in_ok-slot.ensures _ _ _ _ refl _ c.enter.ensures _ c.take_run.ensures.img_after _ _ c.take_run.ensures.map_after in
    record { code_value = r.0; number_value = r.1.0; img_after = r.1.1.0; map_after = r.1.1.1 }
