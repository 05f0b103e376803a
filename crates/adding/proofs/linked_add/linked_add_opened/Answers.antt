-- Rests on `LinkedAddAnswers`: a block that the stage gives can be added to its file; and on `mapped_enlarged`.
use mathlib.Core.Path.{refl}
use Rattle.std.proofs.lemmas.Result.{err_from_is_err_and}
use Rattle.answers.specs.Refusals.{code_in}
use Rattle.adding.proofs.LinkedAddMap.{mapped_enlarged}
use Rattle.adding.proofs.LinkedAddAnswers.{linked_add_denied, block_is, linked_add_ready, linked_add_done}
use Rattle.adding.proofs.linked_add.linked_add_opened.Goals as goal

pub take_and_add-requires : goal.take_and_add-requires
take_and_add-requires c = record {
  ready = linked_add_ready _ _ _ c.args.payload.now _ c.payload_bytes_of.ensures _ c.in_ok-file.ensures _ _ _ refl _ c.requires.mapped_if;
  b_value = block_is _ _ _ c.args.payload.now _ c.payload_bytes_of.ensures _ c.in_ok-file.ensures _ _ _ refl;
}

pub returns-in_err-file : goal.returns-in_err-file
unfolding code_in
returns-in_err-file c = let denied = linked_add_denied _ _ _ _ _ c.payload_bytes_of.ensures _ c.in_err-file.ensures _ refl in
    let p = err_from_is_err_and c.from_residual.result c.from_residual.ensures.1 in
    record { code_value = rw (p.1, p.2) denied.0; number_value = rw p.1 denied.1.0; img_after = denied.1.1; mapped_if_2 = c.requires.mapped_if }

pub returns : goal.returns
unfolding code_in
returns c = let ready = linked_add_ready _ _ _ c.args.payload.now _ c.payload_bytes_of.ensures _ c.in_ok-file.ensures _ _ _ refl _ c.requires.mapped_if in
    let done = linked_add_done _ _ _ c.args.payload.now _ c.payload_bytes_of.ensures _ c.in_ok-file.ensures _ _ _ refl _ c.take_and_add.ensures.img_after in
    record {
      code_value = done.0;
      number_value = done.1.0;
      img_after = done.1.1;
      mapped_if_2 = λ right. mapped_enlarged ready c.take_and_add.ensures.img_after
          c.take_and_add.auto.map c.take_and_add.ensures.says;
    }
