-- Rests on `Specified`: the numbers of the parts are those of the whole, and its switches begin where the brackets end.
use Rattle.command_parts.proofs.Specified.{parts_made}
use Rattle.command_parts.proofs.read_parts.Goals as goal

pub returns : goal.returns
returns c = parts_made _ _ _ c.read_device-device.ensures _ c.read_file-file.ensures _ c.read_uic-uic.ensures c.numbers_of-numbers.ensures
