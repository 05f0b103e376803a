-- Rests on `PassedValues`: all values end where the rest does; each takes the place further.
use mathlib.Core.Path.{sym, ◌∙◌}
use native.Mathlib.Omega.{arith}
use Rattle.command_parts.proofs.PassedValues.{values_none, values_short, values_more, values_on}
use Rattle.command_parts.proofs.switch.pass_values.Goals as goal

pub returns-then-here-start : goal.returns-then-here-start
returns-then-here-start c = values_short _ _ _ (sym c.in-Ok.ensures) _ c.named-here.ensures c.if-here-start.true ∙ sym c.loop-start.invariant

pub loop-start-smaller : goal.loop-start-smaller
loop-start-smaller c = let o = values_on c.args.line.now c.loop-start.here.at c.in-Ok.start (sym c.in-Ok.ensures) c.named-here.result.at c.named-here.ensures in
    omega (arith, o.0, o.1)

pub loop-start-preserved : goal.loop-start-preserved
loop-start-preserved c = c.loop-start.invariant ∙ sym (values_more _ _ _ (sym c.in-Ok.ensures) _ c.named-here.ensures c.if-here-start.false)

pub returns : goal.returns
returns c = values_none _ _ _ (sym c.in_default.ensures) ∙ sym c.loop-start.invariant
