-- Rests on `Judged`: the reader of lines refuses a line exactly at its place, tells of a number over its bound, and finds a specification, or none, only in a
-- line that has a reading.
use Rattle.std.proofs.lemmas.Result.{err_from_is_err_and}
use Rattle.command.proofs.Judged.{judged_fault, judged_right}
use Rattle.command.proofs.csi1.judge.Goals as goal

pub returns-in_err-read_line : goal.returns-in_err-read_line
returns-in_err-read_line c = let p = err_from_is_err_and c.from_residual.result c.from_residual.ensures.1 in
    rw (p.1, p.2) (judged_fault _ (rw c.in_err-read_line.was at c.read_line.ensures))

pub returns : goal.returns
returns c = judged_right _ (rw c.in_ok-read_line.was at c.read_line.ensures)
