-- Rests on `DataJudged`: the buffer is full, the bytes end, or the byte behind the data is there.
use native.Mathlib.Omega.{arith}
use Rattle.binary.proofs.DataJudged.{full_few, judged_full, judged_ended, judged_read, verdict_of_law}
use Rattle.binary.proofs.binary_read.judge_data.Goals as goal

pub overflow_sub-result : goal.overflow_sub-result
overflow_sub-result c = full_few c.args.mode c.args.most c.args.coming (rw c.is_special.ensures at c.if-is_special-count.true)

pub returns-then-is_special-count : goal.returns-then-is_special-count
returns-then-is_special-count c = λ s counted summed stands. judged_full c.args.mode c.args.most c.args.coming c.args.sum s counted summed (rw c.is_special.ensures at c.if-is_special-count.true)

pub returns-then-behind-eq0 : goal.returns-then-behind-eq0
returns-then-behind-eq0 c = λ s counted summed stands. judged_ended c.args.mode c.args.most c.args.coming c.args.sum s counted summed c.args.fetched.behind stands
    (rw c.is_special.ensures at c.if-is_special-count.false)
    c.bit_0-short.ensures.value
    c.if-behind-eq0.true

pub overflow_add-result-3 : goal.overflow_add-result-3
overflow_add-result-3 c = omega (arith, c.requires)

pub returns : goal.returns
returns c = λ s counted summed stands.
    judged_read c.args.mode c.args.most c.args.coming c.args.sum s counted summed c.args.fetched.behind stands
    (rw c.is_special.ensures at c.if-is_special-count.false)
    c.bit_0-short.ensures.value
    (omega (arith, c.if-behind-eq0.false)) (verdict_of_law _ c.byte_at-last.ensures c.bit_1.ensures.value)
