-- Rests on `PassedSwitches`: all switches end where the rest does; each takes the place further.
use mathlib.Core.Path.{sym, ◌∙◌}
use native.Mathlib.Omega.{arith}
use Rattle.command_cursor.proofs.Carried.{carried}
use Rattle.command_parts.proofs.PassedSwitches.{switches_none, switches_refused, switches_more}
use Rattle.command_parts.proofs.switch.pass_switches.Goals as goal

pub returns-in_err-here : goal.returns-in_err-here
returns-in_err-here c = rw (carried c.from_residual.ensures.1) (switches_refused _ _ _ (sym c.in-Ok.ensures) _ (sym c.in_err-here.ensures) ∙ sym c.loop-start.invariant)

pub loop-start-smaller : goal.loop-start-smaller
loop-start-smaller c = let m = switches_more c.args.line.now c.loop-start.here.at c.in-Ok.start (sym c.in-Ok.ensures) c.in_ok-here.here (sym c.in_ok-here.ensures) in
    omega (arith, m.0, m.1)

pub loop-start-preserved : goal.loop-start-preserved
loop-start-preserved c = c.loop-start.invariant ∙ sym (switches_more _ _ _ (sym c.in-Ok.ensures) _ (sym c.in_ok-here.ensures)).2

pub returns : goal.returns
returns c = switches_none _ _ _ (sym c.in_default.ensures) ∙ sym c.loop-start.invariant
