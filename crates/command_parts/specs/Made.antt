-- Means: what is read of each part of a specification, and where it ends; and the numbers of all.
use Rattle.std.specs.Prelude.{ℕ, List, Option, Some, None, is_some, unwrap_or}
use Rattle.std.proofs.Math.Option as Math
use Rattle.command_grammar.specs.Parsed.{Device, FileName, Uic}
use Rattle.command_grammar.specs.Reader.{Res, ok, no}
use Rattle.command_cursor.specs.Capped.{capped}
use Rattle.command_cursor.specs.FilledWord.{filled_word, first_word, second_word}
use Rattle.command_parts.specs.Numbers.{present_bits}
use Rattle.command_parts.specs.declared.Numbers.{Numbers}
use Rattle.command_parts.specs.declared.reading.ReadAt.{ReadAt}
use Rattle.command_parts.specs.declared.reading.DeviceNumbers.{DeviceNumbers}
use Rattle.command_parts.specs.declared.reading.FileNumbers.{FileNumbers}
use Rattle.command_parts.specs.declared.reading.UicNumbers.{UicNumbers}

abbrev pub device_part : Math.Option Device → Option DeviceNumbers
device_part Math.none = None
device_part (Math.some d) = Some (record { word = filled_word d.letters; unit = capped d.unit })

abbrev pub extension_part : Math.Option (List ℕ) → Option ℕ
extension_part Math.none = None
extension_part (Math.some e) = Some (filled_word e)

abbrev pub file_part : Math.Option FileName → Option FileNumbers
file_part Math.none = None
file_part (Math.some f) = Some (record { name1 = first_word f.name; name2 = second_word f.name; extension = extension_part f.extension })

abbrev pub uic_part : Math.Option Uic → Option UicNumbers
uic_part Math.none = None
uic_part (Math.some u) = Some (record { group = capped u.group; user = capped u.user })

-- where no device stands, what begins there is a file
unfoldable pub device_found : ℕ → Res Device → ReadAt DeviceNumbers
device_found at (ok d end) = record { part = device_part (Math.some d); next = record { at = end } }
device_found at (no place) = record { part = None; next = record { at = at } }

unfoldable pub extension_found : Math.Option (List ℕ) → ℕ → ReadAt ℕ
extension_found e end = record { part = extension_part e; next = record { at = end } }

unfoldable pub file_found : Math.Option FileName → ℕ → ReadAt FileNumbers
file_found f end = record { part = file_part f; next = record { at = end } }

unfoldable pub uic_found : Math.Option Uic → ℕ → ReadAt UicNumbers
uic_found u end = record { part = uic_part u; next = record { at = end } }

-- "the parts (absent ones' numbers 0)"
abbrev pub device_numbers : Option DeviceNumbers → DeviceNumbers
device_numbers device = unwrap_or device (record { word = 0; unit = 0 })

abbrev pub file_numbers : Option FileNumbers → FileNumbers
file_numbers file = unwrap_or file (record { name1 = 0; name2 = 0; extension = None })

abbrev pub uic_numbers : Option UicNumbers → UicNumbers
uic_numbers uic = unwrap_or uic (record { group = 0; user = 0 })

-- of a specification whose switches are not yet counted
unfoldable pub numbers_in : Option DeviceNumbers → Option FileNumbers → Option UicNumbers → Numbers
numbers_in device file uic =
    record {
      present = present_bits (is_some device) (is_some file) (is_some (file_numbers file).extension) (is_some uic);
      device = (device_numbers device).word;
      unit = (device_numbers device).unit;
      name1 = (file_numbers file).name1;
      name2 = (file_numbers file).name2;
      extension = unwrap_or (file_numbers file).extension 0;
      group = (uic_numbers uic).group;
      user = (uic_numbers uic).user;
      switches = 0;
    }
