-- Means: a specification with its numbers as far as 256.
use Rattle.std.proofs.Math.Option.{Option, none, some}
use Rattle.command_grammar.specs.Parsed.{Device, Uic, Specification}
use Rattle.command_cursor.specs.Capped.{capped}

abbrev pub capped_device : Option Device → Option Device
capped_device none = none
capped_device (some d) = some (record { letters = d.letters; unit = capped d.unit })

abbrev pub capped_uic : Option Uic → Option Uic
capped_uic none = none
capped_uic (some u) = some (record { group = capped u.group; user = capped u.user })

abbrev pub capped_specification : Specification → Specification
capped_specification v = record { device = capped_device v.device; file = v.file; uic = capped_uic v.uic; switches = v.switches }
