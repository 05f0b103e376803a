-- Rests on `FillingSteps`: the buffer has room behind the byte, or is full, and then a block can be added.
use mathlib.Core.Path.{refl}
use Rattle.stream.proofs.FillingSteps.{laid_within, laid_full}
use Rattle.stream.proofs.writing.lay.Goals as goal

pub returns-then-filled-gather : goal.returns-then-filled-gather
returns-then-filled-gather c = record { gather_after = refl; laid_byte = laid_within c.requires c.if-filled-gather.true }

pub returns : goal.returns
returns c = record {
  gather_after = refl;
  laid_byte = laid_full c.requires c.if-filled-gather.false c.add_below-b.ensures.result_value c.add_below-b.ensures.img_after
      c.add_below-b.auto.map c.add_below-b.ensures.says c.add_below-b.ensures.none_from_2;
}
