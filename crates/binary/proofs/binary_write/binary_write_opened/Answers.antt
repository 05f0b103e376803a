-- Rests on `BinaryWritingAnswers`: each answer of the stage gives one of the request.
use mathlib.Core.Path.{refl}
use Rattle.asking.proofs.Verdicts.{carried}
use Rattle.binary.proofs.BinaryWritingAnswers.{binary_denied, binary_few, binary_begun, binary_done}
use Rattle.binary.proofs.binary_write.binary_write_opened.Goals as goal

pub lay_line-at-requires : goal.lay_line-at-requires
lay_line-at-requires c = record {
  writable = binary_begun c.args.img.now c.args.key c.args.caller c.args.content.now c.args.gather.now c.args.filled
      c.full_blocks-needed.ensures.result_value c.in_ok-found.ensures refl _ c.requires.mapped_if;
  content_len_bound = binary_few c.args.img.now c.args.key c.args.caller
      c.args.content.now c.args.gather.now c.args.filled c.full_blocks-needed.ensures.result_value c.in_ok-found.ensures refl;
}

pub returns-in_err-found : goal.returns-in_err-found
returns-in_err-found c = let d = binary_denied c.args.img.now c.args.key c.args.caller c.args.content.now c.args.gather.now c.args.filled c.full_blocks-needed.ensures.result_value
    c.in_err-found.ensures refl in
    let err = carried c.from_residual.ensures.1 in
    record { code_value = rw err d.0; filled_value = rw err d.1.0; img_after = d.1.1.0; gather_after = d.1.1.1; mapped_if_2 = c.requires.mapped_if }

pub returns : goal.returns
returns c = let all = binary_done c.args.img.now c.args.key c.args.caller c.args.content.now c.args.gather.now c.args.filled c.full_blocks-needed.ensures.result_value
    c.in_ok-found.ensures refl _ c.requires.mapped_if c.lay_line-at.ensures in
    record { code_value = all.0; filled_value = all.1.0; img_after = all.1.1.0; gather_after = all.1.1.1.0; mapped_if_2 = all.1.1.1.1 }
