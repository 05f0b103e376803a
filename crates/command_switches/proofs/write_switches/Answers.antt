-- Rests on `SwitchesWrittenLoops`: the words of a switch and then those of the rest are those of all, from the start of the buffer.
use Prim.Native.Nat.{◌+◌, ◌*◌}
use mathlib.Core.Path.{◌≡◌, sym}
use native.Mathlib.Omega.{arith}
use Rattle.command_switches.proofs.SwitchesWrittenParts.{switch_asked, all_asked, all_written}
use Rattle.command_switches.proofs.SwitchesWrittenLoops.{switches_start, switches_done, switch_room, switch_on, switch_more}
use Rattle.command_switches.proofs.write_switches.Goals as goal

pub loop-start-init : goal.loop-start-init
loop-start-init c = switches_start (all_asked _ _ _ c.requires)

pub returns : goal.returns
returns c = all_written _ _ _ _ _ c.requires (switches_done c.loop-start.invariant _ (sym c.in_default.ensures))

pub write_switch-written-requires : goal.write_switch-written-requires
write_switch-written-requires c = switch_asked _ _ _ (sym c.in-Ok.ensures) _ _ c.loop-start.invariant.fit

pub overflow_mul-i : goal.overflow_mul-i
overflow_mul-i c = let room = switch_room c.loop-start.invariant _ (sym c.in-Ok.ensures) c.write_switch-written.result c.write_switch-written.ensures in
    omega (arith, room)

pub overflow_add-i : goal.overflow_add-i
overflow_add-i c = let room = switch_room c.loop-start.invariant _ (sym c.in-Ok.ensures) c.write_switch-written.result c.write_switch-written.ensures in
    omega (arith, room)

pub overflow_add-i-in-Ok : goal.overflow_add-i-in-Ok
overflow_add-i-in-Ok c = let room = switch_room c.loop-start.invariant _ (sym c.in-Ok.ensures) c.write_switch-written.result c.write_switch-written.ensures in
    omega (arith, room)

pub overflow_add-count : goal.overflow_add-count
overflow_add-count c = let on = switch_on c.loop-start.invariant _ (sym c.in-Ok.ensures) c.write_switch-written.result c.write_switch-written.ensures in
    record { fits = omega (arith, on.1, c.loop-start.invariant.few, c.well_formed.0.0) }

pub loop-start-smaller : goal.loop-start-smaller
loop-start-smaller c = let on = switch_on c.loop-start.invariant _ (sym c.in-Ok.ensures) c.write_switch-written.result c.write_switch-written.ensures in
    omega (arith, on.0, on.1)

pub loop-start-preserved : goal.loop-start-preserved
loop-start-preserved c =
    let place : c.loop-start.i + (3 + 2 * c.write_switch-written.result.values) ≡ c.loop-start.i + 3 + 2 * c.write_switch-written.result.values = omega arith in
    rw place
    (switch_more c.loop-start.invariant _ (sym c.in-Ok.ensures) c.write_switch-written.result c.write_switch-written.ensures c.write_switch-written.auto.buffer)
