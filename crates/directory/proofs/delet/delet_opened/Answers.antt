-- Rests on `DeletStage`: the decision's code and image are the request's; the blocks of a file that it found can be given up on both maps, and its entry cleared.
use mathlib.Core.Path.{refl}
use Rattle.answers.specs.Refusals.{code_in}
use Rattle.asking.proofs.Verdicts.{carried}
use Rattle.directory.proofs.DeletStage.{deleting_refused, deleting_room, deleting_bits, deleting_held, deleting_done}
use Rattle.directory.proofs.delet.delet_opened.Goals as goal

pub returns-in_err-found : goal.returns-in_err-found
unfolding code_in
returns-in_err-found c =
    let r = deleting_refused _ _ _ _ c.in_err-found.ensures _ refl c.args.map.now in
    record { value = rw (carried c.from_residual.ensures.1) r.0; img_after = r.1.0; map_after = r.1.1 }

pub invariant_of-give_up : goal.invariant_of-give_up
invariant_of-give_up c = record { sized = (deleting_held _ _ _ _ c.in_ok-found.ensures _ _ _ refl _ c.requires.mapped_if).0 }

pub give_up-requires : goal.give_up-requires
give_up-requires c =
    let r = deleting_held _ _ _ _ c.in_ok-found.ensures _ _ _ refl _ c.requires.mapped_if in
    record { blocks_in_bounds = r.1.0; by_index = r.1.1 }

pub clear_bits-requires : goal.clear_bits-requires
clear_bits-requires c =
    let r = deleting_bits _ _ _ _ c.in_ok-found.ensures _ _ _ refl in
    record { sized = r.0; by_index = r.1 }

pub clear_entry-requires : goal.clear_entry-requires
clear_entry-requires c =
    let r = deleting_room _ _ _ _ c.in_ok-found.ensures _ _ _ refl c.clear_bits.auto.img in
    record { sized = r.0; e_bound = r.1 }

pub returns : goal.returns
unfolding code_in
returns c =
    let r = deleting_done _ _ _ _ c.in_ok-found.ensures _ _ _ refl _ _ c.clear_bits.ensures c.clear_entry.ensures _ _ c.give_up.ensures in
    record { value = r.0; img_after = r.1.0; map_after = r.1.1 }
