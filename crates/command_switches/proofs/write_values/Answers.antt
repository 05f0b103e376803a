-- Rests on `SwitchesWrittenLoops`: the two words of a value and then those of the rest are those of all, and the room for all is room for each.
use mathlib.Core.Path.{sym}
use native.Mathlib.Omega.{arith}
use Rattle.command_switches.proofs.SwitchesWrittenLoops.{values_start, values_done, value_room, value_on, value_more}
use Rattle.command_switches.proofs.write_values.Goals as goal

pub returns : goal.returns
returns c = values_done c.loop-start.invariant _ (sym c.in_default.ensures)

pub write_name-here-requires : goal.write_name-here-requires
write_name-here-requires c = value_room c.loop-start.invariant _ (sym c.in-Ok.ensures)

pub loop-start-smaller : goal.loop-start-smaller
loop-start-smaller c = let on = value_on c.loop-start.invariant _ (sym c.in-Ok.ensures) c.write_name-here.result c.write_name-here.ensures.at_value in
    omega (arith, on.0, on.1)

pub loop-start-preserved : goal.loop-start-preserved
loop-start-preserved c = value_more c.loop-start.invariant _ (sym c.in-Ok.ensures) c.write_name-here.result c.write_name-here.ensures.at_value
    c.write_name-here.auto.buffer c.write_name-here.ensures.buffer_after
