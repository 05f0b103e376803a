-- Rests on `LineWritingAnswers`: a file that the stage gives has room for the block that the NULs fill.
use mathlib.Core.Path.{refl}
use Rattle.answers.specs.Refusals.{code_in}
use Rattle.asking.proofs.Verdicts.{carried}
use Rattle.lines.proofs.LineWritingAnswers.{end_denied, end_begun, end_done}
use Rattle.lines.proofs.line_write.line_end_opened.Goals as goal

pub lay_nuls-requires : goal.lay_nuls-requires
lay_nuls-requires c = record {
  writable = end_begun c.args.img.now c.args.key c.args.caller c.args.gather.now c.args.filled _ c.nuls_for-count.ensures.filled_value
      c.full_blocks-needed.ensures.result_value c.in_ok-found.ensures refl _ c.requires.mapped_if;
  count_bound = c.nuls_for-count.ensures.upper_bound;
}

pub returns-in_err-found : goal.returns-in_err-found
unfolding code_in
returns-in_err-found c = let denied = end_denied c.args.img.now c.args.key c.args.caller c.args.gather.now c.args.filled _ c.nuls_for-count.ensures.filled_value
    c.full_blocks-needed.ensures.result_value c.in_err-found.ensures refl in
    record { value = rw (carried c.from_residual.ensures.1) denied.0; img_after = denied.1.0; gather_after = denied.1.1; mapped_if_2 = c.requires.mapped_if }

pub returns : goal.returns
unfolding code_in
returns c = let all = end_done c.args.img.now c.args.key c.args.caller c.args.gather.now c.args.filled _ c.nuls_for-count.ensures.filled_value
    c.full_blocks-needed.ensures.result_value c.in_ok-found.ensures refl _ c.requires.mapped_if c.lay_nuls.ensures in
    record { value = all.0; img_after = all.1.0; gather_after = all.1.1.0; mapped_if_2 = all.1.1.1 }
