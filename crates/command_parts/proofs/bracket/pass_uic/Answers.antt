-- Rests on `PassedUic`: no bracket, no digit behind it, or what `pass_user` finds behind the digits, of which it is told whether they are at most 377.
use mathlib.Core.Path.{sym, ◌∙◌}
use Rattle.command_parts.proofs.PassedUic.{pass_no_uic, pass_no_group, pass_uic}
use Rattle.command_parts.proofs.bracket.pass_uic.Goals as goal

pub returns-in_default : goal.returns-in_default
returns-in_default c = pass_no_uic _ _ _ (sym c.in_default.ensures)

pub returns-then-digits-start : goal.returns-then-digits-start
returns-then-digits-start c = pass_no_group _ _ _ (sym c.in-Ok.ensures) c.number-group.ensures c.if-digits-start.true

pub returns : goal.returns
returns c = c.pass_user.ensures ∙ pass_uic _ _ _ (sym c.in-Ok.ensures) c.number-group.ensures c.if-digits-start.false
