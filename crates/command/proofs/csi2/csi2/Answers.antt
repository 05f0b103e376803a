-- Rests on `Csi2Stage`: a law for each return, from what `read_line` located and what `give` gave of the specification there.
use Rattle.std.proofs.lemmas.Result.{err_from_is_err_and}
use Rattle.command.proofs.Csi2Stage.{line_long, line_fault, none_there, standing, one_there}
use Rattle.command.proofs.csi2.csi2.Goals as goal

pub returns-then-line-gt-LINE_LIMIT : goal.returns-then-line-gt-LINE_LIMIT
returns-then-line-gt-LINE_LIMIT c = line_long _ _ _ _ c.if-line-gt-LINE_LIMIT.true

pub returns-in_err-start : goal.returns-in_err-start
returns-in_err-start c = let p = err_from_is_err_and c.from_residual.result c.from_residual.ensures.1 in
    rw (p.1, p.2) (line_fault _ c.if-line-gt-LINE_LIMIT.false _ (rw c.in_err-start.was at c.read_line.ensures))

pub returns-in_default : goal.returns-in_default
returns-in_default c = none_there _ c.if-line-gt-LINE_LIMIT.false (rw (c.in_ok-start.was, c.in_default.is) at c.read_line.ensures)

pub give-requires : goal.give-requires
give-requires c = record {
  line_len_bound = c.if-line-gt-LINE_LIMIT.false;
  specification_at = standing (rw (c.in_ok-start.was, c.in-Some.is) at c.read_line.ensures);
}

pub returns : goal.returns
returns c = one_there c.if-line-gt-LINE_LIMIT.false (rw (c.in_ok-start.was, c.in-Some.is) at c.read_line.ensures) c.give.ensures
