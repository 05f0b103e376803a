-- Rests on `LineWritingAnswers`: what was counted is the front of the text, a file that the stage gives has room for what is put for it.
use mathlib.Core.Path.{refl}
use Rattle.asking.proofs.Verdicts.{carried}
use Rattle.lines.proofs.LineWritingAnswers.{counted_for, front_fits, line_denied, line_begun, line_done}
use Rattle.lines.proofs.line_write.line_write_opened.Goals as goal

pub slice_bounds-taken-end : goal.slice_bounds-taken-end
slice_bounds-taken-end c = front_fits c.args.mode c.args.text.now (counted_for c.args.text.now c.count_taken-count.ensures c.from.ensures)

pub lay_text-at-requires : goal.lay_text-at-requires
lay_text-at-requires c = line_begun c.args.img.now c.args.key c.args.caller c.args.mode c.args.text.now c.args.gather.now c.args.filled
    (counted_for c.args.text.now c.count_taken-count.ensures c.from.ensures)
    c.text_blocks-needed.ensures.result_value c.in_ok-found.ensures refl _ c.requires.mapped_if

pub returns-in_err-found : goal.returns-in_err-found
returns-in_err-found c = let denied = line_denied c.args.img.now c.args.key c.args.caller c.args.mode c.args.text.now c.args.gather.now c.args.filled
    (counted_for c.args.text.now c.count_taken-count.ensures c.from.ensures)
    c.text_blocks-needed.ensures.result_value c.in_err-found.ensures refl in
    let err = carried c.from_residual.ensures.1 in
    record { code_value = rw err denied.0; filled_value = rw err denied.1.0; img_after = denied.1.1.0; gather_after = denied.1.1.1; mapped_if_2 = c.requires.mapped_if }

pub returns : goal.returns
returns c = let all = line_done c.args.img.now c.args.key c.args.caller c.args.mode c.args.text.now c.args.gather.now c.args.filled
    (counted_for c.args.text.now c.count_taken-count.ensures c.from.ensures)
    c.text_blocks-needed.ensures.result_value c.in_ok-found.ensures refl _ c.requires.mapped_if c.lay_text-at.ensures c.status_of.ensures in
    record { code_value = all.0; filled_value = all.1.0; img_after = all.1.1.0; gather_after = all.1.1.1.0; mapped_if_2 = all.1.1.1.1 }
