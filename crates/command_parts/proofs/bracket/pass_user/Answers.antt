-- Rests on `PassedUic`: no comma, no digit behind it, or the closing bracket behind the digits; and whether they are at most 377.
use mathlib.Core.Path.{sym, ◌∙◌}
use Rattle.command_cursor.proofs.Carried.{carried}
use Rattle.command_parts.proofs.PassedUic.{pass_no_comma, pass_no_user, pass_closing}
use Rattle.command_parts.proofs.bracket.pass_user.Goals as goal

pub returns-in_err-start : goal.returns-in_err-start
returns-in_err-start c = rw (carried c.from_residual.ensures.1) (pass_no_comma _ _ _ _ (sym c.in_err-start.ensures))

pub returns-then-digits-start : goal.returns-then-digits-start
returns-then-digits-start c = pass_no_user _ _ _ _ (sym c.in_ok-start.ensures) c.number-user.ensures c.if-digits-start.true

pub returns : goal.returns
returns c = c.pass_one.ensures ∙ pass_closing _ _ _ _ (sym c.in_ok-start.ensures) c.number-user.ensures c.if-digits-start.false
