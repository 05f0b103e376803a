-- Rests on `SwitchesMeasured`: no slash, or the 6 bytes of the switch that it begins and those that stand behind its name.
use mathlib.Core.Path.{sym}
use native.Mathlib.Omega.{arith}
use Rattle.command_switches.proofs.SwitchesMeasured.{measured_none, slash_on, measured_from}
use Rattle.command_switches.proofs.measure.Goals as goal

pub returns-in_default : goal.returns-in_default
returns-in_default c = measured_none _ _ _ (sym c.in_default.ensures)

pub measure_from-requires : goal.measure_from-requires
measure_from-requires c =
    let on = slash_on c.args.line.now c.args.c.at c.in-Ok.start (sym c.in-Ok.ensures) c.named.result.at c.named.ensures in
    (c.requires, omega (arith, on.0))

pub returns : goal.returns
returns c = measured_from _ _ _ (sym c.in-Ok.ensures) _ c.named.ensures c.measure_from.ensures
