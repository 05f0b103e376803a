-- Rests on `AllocStage` for each answer, and on `run_is`: the map says what the image says, so the run found on it is `highest_run`.
use mathlib.Core.Path.{refl, sym, ap, ◌∙◌}
use Rattle.std.proofs.lemmas.Result.{err_from_is_err_and}
use Rattle.answers.specs.Refusals.{code_of}
use Rattle.room.specs.RoomMap.{start_in}
use Rattle.room.proofs.RoomMapRun.{run_is}
use Rattle.creation.proofs.CreatingStage.{allowed, forbidden, creatable}
use Rattle.creation.proofs.CreatingWritten.{sized_at}
use Rattle.creation.proofs.AllocStage.{allowed_mapped, allocating_forbidden, allocating_42, allocating_extent, count_some}
use Rattle.creation.proofs.alloc.decide_alloc.Goals as goal

pub blocks_for-count-requires : goal.blocks_for-count-requires
blocks_for-count-requires c = let a = allowed _ _ _ _ _ _ c.in_ok-slot.ensures _ _ refl in
    let ready = creatable _ _ _ _ _ a.clear in
    (sized_at ready a.measures a.number).some

pub highest_run-requires : goal.highest_run-requires
highest_run-requires c = let a = allowed _ _ _ _ _ _ c.in_ok-slot.ensures _ _ refl in
    let ready = creatable _ _ _ _ _ a.clear in (
      (allowed_mapped a c.requires.mapped_if).0,
      (sized_at ready a.measures a.number).most,
      count_some _ _ _ _ _ a _ c.blocks_for-count.ensures,
    )

pub returns-in_err-slot : goal.returns-in_err-slot
returns-in_err-slot c = let p = err_from_is_err_and c.from_residual.result c.from_residual.ensures.1 in
    rw (p.1, p.2) (allocating_forbidden _ _ _ _ _ _ (forbidden _ _ _ _ _ _ c.in_err-slot.ensures _ refl))

pub returns-in_default : goal.returns-in_default
unfolding code_of
returns-in_default c = let a = allowed _ _ _ _ _ _ c.in_ok-slot.ensures _ _ refl in
    allocating_42 _ _ _ _ _ a _ c.blocks_for-count.ensures
    ((sym (run_is _ _ (allowed_mapped a c.requires.mapped_if).1 _ a.measures _))
    ∙ (sym c.highest_run.ensures ∙ ap start_in c.in_default.is))

pub returns : goal.returns
returns c = let a = allowed _ _ _ _ _ _ c.in_ok-slot.ensures _ _ refl in
    allocating_extent _ _ _ _ _ a _ c.blocks_for-count.ensures _
    ((sym (run_is _ _ (allowed_mapped a c.requires.mapped_if).1 _ a.measures _))
    ∙ (sym c.highest_run.ensures ∙ ap start_in c.in-Some.is))
