-- Rests on `PartsLaid`: an absent device has two zeros; one that is there has letters and a unit up to 7, and shows them.
use Rattle.command_writing.specs.LaidText.{wrong}
use Rattle.command_writing.proofs.NameTests.{refuted}
use Rattle.command_writing.proofs.PartsLaid.{device_word_law, device_unit, device_large, device_other, device_absent, device_laid}
use Rattle.command_writing.proofs.parts.write_device.Goals as goal

pub returns-then-word-ne0 : goal.returns-then-word-ne0
returns-then-word-ne0 c = wrong (device_word_law c.if-not-present.true c.if-word-ne0.true)

pub returns-then-unit-ne0 : goal.returns-then-unit-ne0
returns-then-unit-ne0 c = wrong (device_unit c.if-not-present.true c.if-unit-ne0.true)

pub returns-then-not-present : goal.returns-then-not-present
returns-then-not-present c = device_absent c.if-not-present.true c.if-word-ne0.false c.if-unit-ne0.false

pub returns-then-unit-gt-LAST_UNIT : goal.returns-then-unit-gt-LAST_UNIT
returns-then-unit-gt-LAST_UNIT c = wrong (device_large c.if-not-present.false c.if-unit-gt-LAST_UNIT.true)

pub returns-then-not-is_device : goal.returns-then-not-is_device
returns-then-not-is_device c = wrong (device_other c.if-not-present.false (refuted c.is_device.ensures c.if-not-is_device.true))

pub returns : goal.returns
returns c = let k = c.is_device.ensures.0 c.if-not-is_device.false in
    device_laid c.if-not-present.false k c.if-unit-gt-LAST_UNIT.false c.put_word-letters.ensures c.put_unit-digits.ensures c.put.ensures
