-- Rests on `LinkedAddAsked`: behind file and access a free block decides, and what is sought on the map is what is free in the image.
use mathlib.Core.Path.{refl}
use Rattle.std.proofs.lemmas.Result.{err_from_is_err_and}
use Rattle.answers.specs.Refusals.{code_of}
use Rattle.adding.proofs.LinkedAddAsked.{block_unasked, search_asked, block_nowhere, block_found}
use Rattle.adding.proofs.linked_add.ask_block.Goals as goal

pub returns-in_err-file : goal.returns-in_err-file
returns-in_err-file c = let p = err_from_is_err_and c.from_residual.result c.from_residual.ensures.1 in
    rw (p.1, p.2) (block_unasked _ _ _ _ _ c.in_err-file.ensures _ refl)

pub highest_run-requires : goal.highest_run-requires
highest_run-requires c = search_asked _ _ _ _ _ c.in_ok-file.ensures _ _ _ refl _ c.requires.mapped_if

pub returns-in_default : goal.returns-in_default
unfolding code_of
returns-in_default c = block_nowhere _ _ _ _ _ c.in_ok-file.ensures _ _ _ refl _ c.requires.mapped_if c.in_default.ensures refl

pub returns : goal.returns
returns c = block_found _ _ _ _ _ c.in_ok-file.ensures _ _ _ refl _ c.requires.mapped_if c.in-Some.ensures _ refl
