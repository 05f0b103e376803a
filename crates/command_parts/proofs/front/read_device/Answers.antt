-- Rests on `PassedDevice`: fewer than two letters, no colon behind letters and digits, or a device.
use mathlib.Core.Path.{sym}
use Rattle.command_parts.proofs.PassedDevice.{no_letters, letters_wordable, no_colon, device_made}
use Rattle.command_parts.proofs.front.read_device.Goals as goal

pub returns-then-middle-c-lt2 : goal.returns-then-middle-c-lt2
returns-then-middle-c-lt2 c = no_letters _ _ _ c.letters-letters.ensures c.if-middle-c-lt2.true

pub returns-in_default : goal.returns-in_default
returns-in_default c = no_colon _ _ _ c.letters-letters.ensures c.if-middle-c-lt2.false c.number-unit.ensures (sym c.in_default.ensures)

pub word_of-requires : goal.word_of-requires
word_of-requires c = let given = letters_wordable _ _ _ c.letters-letters.ensures c.if-middle-c-lt2.false in
    record { first_le_end = given.0; end_bound = given.1.0; all = given.1.1 }

pub returns : goal.returns
returns c = device_made _ _ _ c.letters-letters.ensures c.if-middle-c-lt2.false c.number-unit.ensures (sym c.in-Ok.ensures) c.word_of.ensures.value
