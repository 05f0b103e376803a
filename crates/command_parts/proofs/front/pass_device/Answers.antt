-- Rests on `PassedDevice`: fewer than two letters, or the colon behind letters and digits; and whether the digits are at most 7.
use mathlib.Core.Path.{◌∙◌}
use Rattle.command_parts.proofs.PassedDevice.{pass_few, pass_colon}
use Rattle.command_parts.proofs.front.pass_device.Goals as goal

pub returns-then-middle-c-lt2 : goal.returns-then-middle-c-lt2
returns-then-middle-c-lt2 c = pass_few _ _ _ c.letters-letters.ensures c.if-middle-c-lt2.true

pub returns : goal.returns
returns c = c.pass_one.ensures ∙ pass_colon _ _ _ c.letters-letters.ensures c.if-middle-c-lt2.false c.number-unit.ensures
