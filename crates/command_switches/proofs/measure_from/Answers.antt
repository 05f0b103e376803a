-- Rests on `SwitchesMeasured`: what was left at the start is what was added since and what is left; each turn takes the place further than the bytes.
use mathlib.Core.Path.{sym}
use native.Mathlib.Omega.{arith}
use Rattle.command_switches.proofs.SwitchesMeasured.{measures_start, colon_on, slash_on, measures_value, measures_switch, measures_done}
use Rattle.command_switches.proofs.measure_from.Goals as goal

pub overflow_add-sum : goal.overflow_add-sum
overflow_add-sum c =
    let on = colon_on c.args.line.now c.loop-start.here.at c.in-Ok.start (sym c.in-Ok.ensures) _ c.named-here.ensures in
    record { fits = omega (arith, on.1, c.loop-start.invariant.few, c.requires.0) }

pub loop-start-smaller-in-Ok : goal.loop-start-smaller-in-Ok
loop-start-smaller-in-Ok c =
    let on = colon_on c.args.line.now c.loop-start.here.at c.in-Ok.start (sym c.in-Ok.ensures) c.named-here.result.at c.named-here.ensures in
    omega (arith, on.0, on.1)

pub loop-start-preserved-in-Ok : goal.loop-start-preserved-in-Ok
loop-start-preserved-in-Ok c = measures_value c.loop-start.invariant _ (sym c.in-Ok.ensures) c.named-here.ensures

pub overflow_add-sum-in-Ok-one : goal.overflow_add-sum-in-Ok-one
overflow_add-sum-in-Ok-one c =
    let on = slash_on c.args.line.now c.loop-start.here.at c.in-Ok-one.start (sym c.in-Ok-one.ensures) _ c.named-here-in-Ok-one.ensures in
    record { fits = omega (arith, on.1, c.loop-start.invariant.few, c.requires.0) }

pub loop-start-smaller : goal.loop-start-smaller
loop-start-smaller c =
    let on = slash_on c.args.line.now c.loop-start.here.at c.in-Ok-one.start (sym c.in-Ok-one.ensures) c.named-here-in-Ok-one.result.at c.named-here-in-Ok-one.ensures in
    omega (arith, on.0, on.1)

pub loop-start-preserved : goal.loop-start-preserved
loop-start-preserved c = measures_switch c.loop-start.invariant _ (sym c.in_default.ensures) _ (sym c.in-Ok-one.ensures) c.named-here-in-Ok-one.ensures

pub returns-in_default-one : goal.returns-in_default-one
returns-in_default-one c = measures_done c.loop-start.invariant _ (sym c.in_default.ensures) _ (sym c.in_default-one.ensures)
