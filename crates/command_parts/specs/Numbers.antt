-- The numbers of a specification, as CSI2 gives them.
use Rattle.std.specs.Prelude.{ℕ, ◌+◌, ◌*◌, Bool, true, false, List, length}
use Rattle.std.proofs.Math.Option.{Option, none, some}
use Rattle.command_grammar.specs.Parsed.{Device, FileName, Uic, Specification}
use Rattle.command_cursor.specs.FilledWord.{filled_word, first_word, second_word}
use Rattle.command_parts.specs.declared.Numbers.{Numbers}

-- "the parts (absent ones' numbers 0)"
abbrev pub device_word : Option Device → ℕ
device_word none = 0
device_word (some d) = filled_word d.letters

abbrev pub unit_of : Option Device → ℕ
unit_of none = 0
unit_of (some d) = d.unit

abbrev pub name_first : Option FileName → ℕ
name_first none = 0
name_first (some f) = first_word f.name

abbrev pub name_second : Option FileName → ℕ
name_second none = 0
name_second (some f) = second_word f.name

abbrev pub extension_in : Option (List ℕ) → ℕ
extension_in none = 0
extension_in (some e) = filled_word e

abbrev pub extension_word : Option FileName → ℕ
extension_word none = 0
extension_word (some f) = extension_in f.extension

abbrev pub group_of : Option Uic → ℕ
group_of none = 0
group_of (some u) = u.group

abbrev pub user_of : Option Uic → ℕ
user_of none = 0
user_of (some u) = u.user

abbrev pub is_present : {A : Type 0} → Option A → Bool
is_present none = false
is_present (some a) = true

abbrev pub is_extended : Option FileName → Bool
is_extended none = false
is_extended (some f) = is_present f.extension

-- "which are present": ours are bits of a number, 0 for the device, 1 for the name, 2 for the extension, 3 for group and user together
abbrev pub bit : Bool → ℕ
bit false = 0
bit true = 1

abbrev pub present_bits : Bool → Bool → Bool → Bool → ℕ
present_bits device name extension uic = bit device + (2 * bit name + (4 * bit extension + 8 * bit uic))

-- "It returns the parts .., which are present, and the switch count"
unfoldable pub numbers_of : Specification → Numbers
numbers_of v =
    record {
      present = present_bits (is_present v.device) (is_present v.file) (is_extended v.file) (is_present v.uic);
      device = device_word v.device;
      unit = unit_of v.device;
      name1 = name_first v.file;
      name2 = name_second v.file;
      extension = extension_word v.file;
      group = group_of v.uic;
      user = user_of v.uic;
      switches = length v.switches;
    }
