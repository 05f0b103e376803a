-- Rests on `MadeUic`: no bracket, or the two numbers behind it, and the place behind the closing bracket.
use mathlib.Core.Path.{sym}
use native.Mathlib.Omega.{arith}
use Rattle.command_parts.proofs.MadeUic.{uic_none, group_within, user_within, uic_made}
use Rattle.command_parts.proofs.bracket.read_uic.Goals as goal

pub returns-in_default : goal.returns-in_default
returns-in_default c = uic_none _ _ (sym c.in_default.ensures)

pub overflow_add-behind_comma : goal.overflow_add-behind_comma
overflow_add-behind_comma c =
    record { fits = omega (arith, group_within c.args.line.now c.args.c.at c.in-Ok.start (sym c.in-Ok.ensures) c.number-group.ensures, c.well_formed.0.0) }

pub overflow_add-next : goal.overflow_add-next
overflow_add-next c =
    record { fits = omega (arith, user_within c.args.line.now c.args.c.at c.in-Ok.start (sym c.in-Ok.ensures) c.number-group.ensures c.number-user.ensures, c.well_formed.0.0) }

pub returns : goal.returns
returns c = uic_made _ _ _ (sym c.in-Ok.ensures) c.number-group.ensures c.number-user.ensures
