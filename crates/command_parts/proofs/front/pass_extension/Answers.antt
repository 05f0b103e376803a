-- Rests on `PassedFile`: no period, no character behind it, or the end of the run behind it.
use mathlib.Core.Path.{sym}
use Rattle.command_parts.proofs.PassedFile.{pass_no_extension, pass_short_extension, pass_extension}
use Rattle.command_parts.proofs.front.pass_extension.Goals as goal

pub returns-in_default : goal.returns-in_default
returns-in_default c = pass_no_extension _ _ _ (sym c.in_default.ensures)

pub returns-then-next-start : goal.returns-then-next-start
returns-then-next-start c = pass_short_extension _ _ _ (sym c.in-Ok.ensures) _ c.named-next.ensures c.if-next-start.true

pub returns : goal.returns
returns c = pass_extension _ _ _ (sym c.in-Ok.ensures) _ c.named-next.ensures c.if-next-start.false
