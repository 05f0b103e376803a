-- Rests on `LinkedAddAsked`: behind file and access the free blocks decide, and what is counted on the map is what is free in the image.
use mathlib.Core.Path.{refl}
use Rattle.std.proofs.lemmas.Result.{err_from_is_err_and}
use Rattle.adding.proofs.LinkedAddAsked.{adding_unasked, adding_mapped, adding_crowded, adding_given}
use Rattle.adding.proofs.linked_add.ask_add.Goals as goal

pub returns-in_err-found : goal.returns-in_err-found
returns-in_err-found c = let p = err_from_is_err_and c.from_residual.result c.from_residual.ensures.1 in
    rw (p.1, p.2) (adding_unasked _ _ _ _ _ c.in_err-found.ensures _ _ refl)

pub judge_room-requires : goal.judge_room-requires
judge_room-requires c = adding_mapped _ _ _ _ _ c.in_ok-found.ensures _ _ _ refl _ c.requires.mapped_if

pub returns-in_err-judge_room : goal.returns-in_err-judge_room
returns-in_err-judge_room c = let p = err_from_is_err_and c.from_residual-in_err-judge_room.result c.from_residual-in_err-judge_room.ensures.1 in
    rw (p.1, p.2) (adding_crowded _ _ _ _ _ c.in_ok-found.ensures _ _ _ refl _
    c.requires.mapped_if _ _ c.in_err-judge_room.ensures _ refl)

pub returns : goal.returns
returns c = adding_given _ _ _ _ _ c.in_ok-found.ensures _ _ _ refl _ c.requires.mapped_if _ _ c.in_ok-judge_room.ensures refl
