-- Rests on `LineWriteCounted`: where twice the characters fill no block, what is put for them fills none.
use Rattle.lines.proofs.LineWriteCounted.{none_full, counted_full}
use Rattle.lines.proofs.counting.text_blocks.Goals as goal

pub returns-then-most-eq0 : goal.returns-then-most-eq0
returns-then-most-eq0 c = record {
  result_value = none_full c.args.size c.args.filled c.args.text.now c.full_blocks-most.ensures.result_value c.if-most-eq0.true;
  result_value_2 =
      c.full_blocks-most.ensures.result_value_2;
}

pub returns : goal.returns
returns c = record {
  result_value = counted_full c.args.size c.args.filled c.args.text.now c.count_puts.ensures c.full_blocks.ensures.result_value;
  result_value_2 =
      c.full_blocks.ensures.result_value_2;
}
