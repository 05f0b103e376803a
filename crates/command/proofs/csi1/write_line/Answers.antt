-- Rests on `Csi1Stage`: a line that `judge` refuses leaves the buffer; any other is filled in at its start, where there is room.
use Rattle.std.proofs.lemmas.Result.{err_from_is_err_and}
use Rattle.command.proofs.Csi1Stage.{written_fault, written_right}
use Rattle.command.proofs.csi1.write_line.Goals as goal

pub returns-in_err-judge : goal.returns-in_err-judge
returns-in_err-judge c = let p = err_from_is_err_and c.from_residual.result c.from_residual.ensures.1 in
    rw (p.1, p.2) (written_fault _ _ (rw c.in_err-judge.was at c.judge.ensures))

pub returns : goal.returns
returns c = written_right _ (rw c.in_ok-judge.was at c.judge.ensures) c.copy_from_slice.ensures.after
