-- Rests on `Passed`: the character stands there or it does not; what is known of the numbers is handed on.
use mathlib.Core.Path.{sym}
use Rattle.command_cursor.proofs.Carried.{carried}
use Rattle.command_parts.proofs.Passed.{one_found, one_missed}
use Rattle.command_parts.proofs.passing.pass_one.Goals as goal

pub returns-in_err-next : goal.returns-in_err-next
returns-in_err-next c = rw (carried c.from_residual.ensures.1) (one_missed _ _ _ _ _ (sym c.in_err-next.ensures))

pub returns : goal.returns
returns c = one_found _ _ _ _ _ (sym c.in_ok-next.ensures)
