-- Rests on `StandingFronts`: each part is judged by its own words, and the bits say which are there.
use Rattle.command_writing.specs.LaidText.{wrong}
use Rattle.command_writing.proofs.StandingFronts.{part_went, part_stuck, front_large, front_device, front_file, front_laid}
use Rattle.command_writing.proofs.sides.write_front.Goals as goal

pub returns-then-present-gt-ALL_PRESENT : goal.returns-then-present-gt-ALL_PRESENT
returns-then-present-gt-ALL_PRESENT c = wrong (front_large _ _ c.record_word-present.ensures c.if-present-gt-ALL_PRESENT.true)

pub returns-in_err-named : goal.returns-in_err-named
returns-in_err-named c = let nothing = part_stuck c.write_device.ensures c.in_err-named.was in
    rw c.from_residual.ensures (wrong (front_device _ _ c.record_word-present.ensures c.record_word-device.ensures c.record_word-unit.ensures nothing))

pub returns-in_err-owned : goal.returns-in_err-owned
returns-in_err-owned c = let nothing = part_stuck c.write_named.ensures c.in_err-owned.was in
    rw c.from_residual-in_err-owned.ensures (wrong (front_file _ _ c.record_word-present.ensures c.record_word-device.ensures c.record_word-unit.ensures nothing))

pub returns : goal.returns
returns c = let device = part_went c.write_device.ensures c.in_ok-named.was in
    let file = part_went c.write_named.ensures c.in_ok-owned.was in
    front_laid _ _ c.record_word-present.ensures c.record_word-device.ensures c.record_word-unit.ensures c.if-present-gt-ALL_PRESENT.false
    c.record_word-group.ensures c.record_word-user.ensures device file c.write_uic.ensures
