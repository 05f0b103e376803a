-- Rests on `WritingAnswered`: what the walk says of the records is what is answered, with the tests before it against it.
use mathlib.Core.Path.{◌≡◌}
use native.Mathlib.Omega.{arith}
use Rattle.std.proofs.lemmas.Result.{err_from_is_err_and}
use Rattle.command_writing.specs.declared.WritingError.TheVariants as W
use Rattle.command_writing.proofs.LaidMany.{went, stuck}
use Rattle.command_writing.proofs.WordsIn.{words_long}
use Rattle.command_writing.proofs.WritingAnswered.{answer_unread, answer_left, answer_long, answer_short, answer_line}
use Rattle.command_writing.proofs.csi_write.Goals as goal

pub returns-in_err-end : goal.returns-in_err-end
returns-in_err-end c = let none = rw c.in_err-end.was at c.ok_or.ensures.ok_part in
    let error : c.in_err-end.field-0.0 ≡ W.NoReading = grind arith in
    let p = err_from_is_err_and c.from_residual.result c.from_residual.ensures.1 in
    rw (p.1, p.2, error) (answer_unread _ _ _ _ (stuck c.write_sides.ensures none))

pub overflow_mul-end : goal.overflow_mul-end
overflow_mul-end c = let w = went c.write_sides.ensures (rw c.in_ok-end.was at c.ok_or.ensures.ok_part) in omega (arith, w.taken.within, words_long c.args.records.now)

pub returns-then-end-records : goal.returns-then-end-records
returns-then-end-records c = answer_left _ _ _ _ (went c.write_sides.ensures (rw c.in_ok-end.was at c.ok_or.ensures.ok_part)) c.if-end-records.true

pub returns-then-count-gt-LINE_LIMIT : goal.returns-then-count-gt-LINE_LIMIT
returns-then-count-gt-LINE_LIMIT c = answer_long _ _ _ _ (went c.write_sides.ensures (rw c.in_ok-end.was at c.ok_or.ensures.ok_part)) (λ k. omega (arith, c.type_inv.records k)) c.if-end-records.false
    c.write_sides.auto.line c.if-count-gt-LINE_LIMIT.true

pub returns-then-buffer-count : goal.returns-then-buffer-count
returns-then-buffer-count c = answer_short _ _ _ _ (went c.write_sides.ensures (rw c.in_ok-end.was at c.ok_or.ensures.ok_part)) (λ k. omega (arith, c.type_inv.records k)) c.if-end-records.false
    c.write_sides.auto.line c.if-count-gt-LINE_LIMIT.false c.if-buffer-count.true

pub returns : goal.returns
returns c = answer_line _ _ _ _ (went c.write_sides.ensures (rw c.in_ok-end.was at c.ok_or.ensures.ok_part)) (λ k. omega (arith, c.type_inv.records k)) c.if-end-records.false
    c.write_sides.auto.line c.if-count-gt-LINE_LIMIT.false c.if-buffer-count.false c.copy_from_slice.ensures.after
