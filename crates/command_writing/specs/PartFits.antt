-- Means: when the parts of a specification are those of its numbers, and what is laid of each.
use Rattle.std.specs.Prelude.{ℕ, ◌+◌, ◌≤◌, ◌≡◌, Bool, false, List, ◌∷◌, ◌++◌, get_or}
use Rattle.std.proofs.Math.Option.{Option}
use Rattle.radix.specs.Names.{is_letter, is_letter_or_digit}
use Rattle.command_grammar.specs.Grammar.{Between}
use Rattle.command_grammar.specs.LineCharacters.{comma, slash, colon}
use Rattle.command_grammar.specs.Parsed.{Device, FileName, Uic, Switch, Specification}
use Rattle.command_cursor.specs.FilledWord.{filled_word, first_word, second_word}
use Rattle.command_parts.specs.Numbers.{device_word, unit_of, name_first, name_second, extension_in, extension_word, group_of, user_of, is_present, is_extended, present_bits}
use Rattle.command_writing.specs.WrittenLine.{written_device, written_file, written_uic, written_values, written_specification}
use Rattle.command_writing.specs.Sayable.{SayableDevice, SayableExtension, SayableFile, SayableUic, SwitchName}

-- the codes of letters
pub record LetterCode (code : ℕ) : Type 0 where
  pub least : 1 ≤ code
  pub most : code ≤ 26

-- letters whose word it is
pub record DeviceLetters (word : ℕ) : Type 0 where
  pub letters : List ℕ
  pub run : Between 2 3 is_letter letters
  pub is : filled_word letters ≡ word

-- characters whose word it is, at least one
pub record ExtensionOf (word : ℕ) : Type 0 where
  pub extension : List ℕ
  pub run : Between 1 3 is_letter_or_digit extension
  pub is : filled_word extension ≡ word

-- a name whose words they are
pub record NameOf (first second : ℕ) : Type 0 where
  pub name : List ℕ
  pub run : Between 1 6 is_letter_or_digit name
  pub first_is : first_word name ≡ first
  pub second_is : second_word name ≡ second

pub record SwitchNameOf (first second : ℕ) : Type 0 where
  pub name : List ℕ
  pub begins : SwitchName name
  pub first_is : first_word name ≡ first
  pub second_is : second_word name ≡ second

pub record DeviceFits (present : Bool) (word unit : ℕ) (d : Option Device) : Type 0 where
  pub says : SayableDevice d
  pub there : is_present d ≡ present
  pub word_is : device_word d ≡ word
  pub unit_is : unit_of d ≡ unit

pub record ExtensionFits (present : Bool) (word : ℕ) (e : Option (List ℕ)) : Type 0 where
  pub says : SayableExtension e
  pub there : is_present e ≡ present
  pub word_is : extension_in e ≡ word

pub record FileFits (present extended : Bool) (first second extension : ℕ) (f : Option FileName) : Type 0 where
  pub says : SayableFile f
  pub there : is_present f ≡ present
  pub longer : is_extended f ≡ extended
  pub first_is : name_first f ≡ first
  pub second_is : name_second f ≡ second
  pub extension_is : extension_word f ≡ extension

pub record NoFile (extended : Bool) (first second extension : ℕ) : Type 0 where
  pub short : extended ≡ false
  pub first_zero : first ≡ 0
  pub second_zero : second ≡ 0
  pub extension_zero : extension ≡ 0

pub record UicFits (present : Bool) (group user : ℕ) (u : Option Uic) : Type 0 where
  pub says : SayableUic u
  pub there : is_present u ≡ present
  pub group_is : group_of u ≡ group
  pub user_is : user_of u ≡ user

-- all but the switches
pub record Front : Type 0 where
  pub device : Option Device
  pub file : Option FileName
  pub uic : Option Uic

unfoldable pub front_text : Front → List ℕ
front_text f = written_device f.device ++ (written_file f.file ++ written_uic f.uic)

-- the eight words from `at` on are theirs
pub record FrontFits (records : List ℕ) (at : ℕ) (f : Front) : Type 0 where
  pub device : SayableDevice f.device
  pub file : SayableFile f.file
  pub uic : SayableUic f.uic
  pub present_is : present_bits (is_present f.device) (is_present f.file) (is_extended f.file) (is_present f.uic) ≡ get_or records at 0
  pub device_is : device_word f.device ≡ get_or records (at + 1) 0
  pub unit_is : unit_of f.device ≡ get_or records (at + 2) 0
  pub first_is : name_first f.file ≡ get_or records (at + 3) 0
  pub second_is : name_second f.file ≡ get_or records (at + 4) 0
  pub extension_is : extension_word f.file ≡ get_or records (at + 5) 0
  pub group_is : group_of f.uic ≡ get_or records (at + 6) 0
  pub user_is : user_of f.uic ≡ get_or records (at + 7) 0

abbrev pub value_text : List ℕ → List ℕ
value_text value = colon ∷ value

unfoldable pub switch_text : Switch → List ℕ
switch_text w = slash ∷ (w.name ++ written_values w.values)

-- a specification behind another
unfoldable pub next_text : Specification → List ℕ
next_text v = comma ∷ written_specification v
