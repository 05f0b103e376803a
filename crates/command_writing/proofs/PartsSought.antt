-- The parts of a record are there to be found: for any numbers some part fits them, or none does.
use Prim.Native.Nat.{ℕ, ◌+◌, ◌/◌, ◌%◌, ◌≤◌}
use mathlib.Core.Path.{◌≡◌, refl, sym}
use mathlib.Core.Bool.{Bool, true, false}
use mathlib.Core.List.{List}
use mathlib.Core.Option.{none, some}
use native.Mathlib.Decide.{ℕ_discrete, dec_le}
use native.Mathlib.Omega.{arith}
use lib.Dec.{eqb}
use lib.ListN.{get_or}
use Rattle.radix.specs.Packing.{first_code, second_code, third_code}
use Rattle.radix.specs.NamesTest.{legal_name, legal_extension}
use Rattle.command_writing.specs.Sayable as Y
use Rattle.command_writing.specs.PartFits.{LetterCode, DeviceLetters, NameOf, SwitchNameOf, DeviceFits, ExtensionFits, NoFile, FileFits, UicFits, FrontFits}
use Rattle.command_writing.proofs.NameTests.{letters_two, letters_three, not_first, not_second, not_third, named, unnamed, extended}
use Rattle.command_writing.proofs.NameTests.{switch_named, switch_not_legal, switch_not_letter}
use Rattle.command_writing.proofs.PartsLaid.{device_word_law, device_unit, device_large, device_other, extension_word_law, extension_blank, extension_other}
use Rattle.command_writing.proofs.PartsLaid.{file_numbers, file_other, file_extension, uic_group, uic_user, uic_large_group, uic_large_user}
use Rattle.command_writing.proofs.StandingFronts.{front_large, front_device, front_file, front_uic, front_fits}

-- one that fits, or that none does
pub data PartSought {A : Type 0} (Fits : A → Type 0) : Type 0 where
  found : {v : A} → Fits v → PartSought Fits
  nothing : ((v : A) → Fits v → ⊥) → PartSought Fits

-- names

letter_decided : (code : ℕ) → Dec (LetterCode code)
letter_decided code = by (dec_le 1 code) (dec_le code 26)
  where
    by : Dec (1 ≤ code) → Dec (code ≤ 26) → Dec (LetterCode code)
    by (yes low) (yes high) = yes (record { least = low; most = high })
    by (yes low) (no over) = no (λ l. over l.most)
    by (no under) high = no (λ l. under l.least)

letters_decided : (word : ℕ) → Dec (DeviceLetters word)
letters_decided word =
    by (letter_decided (first_code word)) (letter_decided (second_code word)) (ℕ_discrete (third_code word) 0) (letter_decided (third_code word))
  where
    by : Dec (LetterCode (first_code word)) → Dec (LetterCode (second_code word)) → Dec (third_code word ≡ 0) → Dec (LetterCode (third_code word)) → Dec (DeviceLetters word)
    by (yes a) (yes b) (yes blanks) c = yes (letters_two refl refl refl a b blanks)
    by (yes a) (yes b) (no some-third) (yes c) = yes (letters_three refl refl refl a b c)
    by (yes a) (yes b) (no some-third) (no other) = no (not_third refl some-third other)
    by (yes a) (no other) blanks c = no (not_second refl other)
    by (no other) b blanks c = no (not_first refl other)

pub name_decided : (first second : ℕ) → Dec (NameOf first second)
name_decided first second = by (legal_name first second) refl
  where
    by : (legal : Bool) → legal_name first second ≡ legal → Dec (NameOf first second)
    by true is = yes (named is)
    by false is = no (unnamed is)

pub switch_name_decided : (first second : ℕ) → Dec (SwitchNameOf first second)
switch_name_decided first second = by (legal_name first second) refl (letter_decided (first_code first))
  where
    by : (legal : Bool) → legal_name first second ≡ legal → Dec (LetterCode (first_code first)) → Dec (SwitchNameOf first second)
    by true is (yes letter) = yes (switch_named refl letter is)
    by true is (no other) = no (switch_not_letter refl other)
    by false is letter = no (switch_not_legal is)

-- parts

device_sought : (present : Bool) (word unit : ℕ) → PartSought (DeviceFits present word unit)
device_sought false word unit = by (ℕ_discrete word 0) (ℕ_discrete unit 0)
  where
    by : Dec (word ≡ 0) → Dec (unit ≡ 0) → PartSought (DeviceFits false word unit)
    by (yes no_word) (yes no-unit) = found {v = none} (record { says = Y.SayableDevice.absent; there = refl; word_is = sym no_word; unit_is = sym no-unit })
    by (yes no_word) (no other) = nothing (device_unit refl other)
    by (no other) unit_is = nothing (device_word_law refl other)
device_sought true word unit = by (letters_decided word) (dec_le unit 7)
  where
    by : Dec (DeviceLetters word) → Dec (unit ≤ 7) → PartSought (DeviceFits true word unit)
    by (yes k) (yes small) =
        found {v = some (record { letters = k.letters; unit = unit })}
        (record { says = Y.SayableDevice.device k.run small; there = refl; word_is = k.is; unit_is = refl })
    by (yes k) (no large) = nothing (device_large refl (omega arith))
    by (no other) small = nothing (device_other refl other)

extension_sought : (present : Bool) (word : ℕ) → PartSought (ExtensionFits present word)
extension_sought false word = by (ℕ_discrete word 0)
  where
    by : Dec (word ≡ 0) → PartSought (ExtensionFits false word)
    by (yes no_word) = found {v = none} (record { says = Y.SayableExtension.absent; there = refl; word_is = sym no_word })
    by (no other) = nothing (extension_word_law refl other)
extension_sought true word = by (legal_extension word) refl (ℕ_discrete word 0)
  where
    by : (legal : Bool) → legal_extension word ≡ legal → Dec (word ≡ 0) → PartSought (ExtensionFits true word)
    by true is (yes blanks) = nothing (extension_blank refl blanks)
    by true is (no some_word) =
        let k = extended is some_word in
        found {v = some k.extension} (record { says = Y.SayableExtension.extension k.run; there = refl; word_is = k.is })
    by false is blanks = nothing (extension_other refl is)

no_file_decided : (longer : Bool) (first second extension : ℕ) → Dec (NoFile longer first second extension)
no_file_decided true first second extension = no (λ n. let is = n.short in let z : ◌≡◌ {A = ℕ} 0 1 = cc in omega arith)
no_file_decided false first second extension = by (ℕ_discrete first 0) (ℕ_discrete second 0) (ℕ_discrete extension 0)
  where
    by : Dec (first ≡ 0) → Dec (second ≡ 0) → Dec (extension ≡ 0) → Dec (NoFile false first second extension)
    by (yes a) (yes b) (yes c) = yes (record { short = refl; first_zero = a; second_zero = b; extension_zero = c })
    by (yes a) (yes b) (no other) = no (λ n. other n.extension_zero)
    by (yes a) (no other) c = no (λ n. other n.second_zero)
    by (no other) b c = no (λ n. other n.first_zero)

file_sought : (present longer : Bool) (first second extension : ℕ) → PartSought (FileFits present longer first second extension)
file_sought false longer first second extension = by (no_file_decided longer first second extension)
  where
    by : Dec (NoFile longer first second extension) → PartSought (FileFits false longer first second extension)
    by (yes zeros) =
        found {v = none}
        (record {
          says = Y.SayableFile.absent;
          there = refl;
          longer = sym zeros.short;
          first_is = sym zeros.first_zero;
          second_is = sym zeros.second_zero;
          extension_is = sym zeros.extension_zero;
        })
    by (no other) = nothing (file_numbers refl other)
file_sought true longer first second extension = by (legal_name first second) refl (extension_sought longer extension)
  where
    by : (legal : Bool) → legal_name first second ≡ legal → PartSought (ExtensionFits longer extension) → PartSought (FileFits true longer first second extension)
    by true is (found {v = e} fits) =
        let k = named is in
        found {v = some (record { name = k.name; extension = e })}
        (record {
          says = Y.SayableFile.file k.run fits.says;
          there = refl;
          longer = fits.there;
          first_is = k.first_is;
          second_is = k.second_is;
          extension_is = fits.word_is;
        })
    by true is (nothing never) = nothing (file_extension refl never)
    by false is e = nothing (file_other refl is)

uic_sought : (present : Bool) (group user : ℕ) → PartSought (UicFits present group user)
uic_sought false group user = by (ℕ_discrete group 0) (ℕ_discrete user 0)
  where
    by : Dec (group ≡ 0) → Dec (user ≡ 0) → PartSought (UicFits false group user)
    by (yes no-group) (yes no-user) = found {v = none} (record { says = Y.SayableUic.absent; there = refl; group_is = sym no-group; user_is = sym no-user })
    by (yes no-group) (no other) = nothing (uic_user refl other)
    by (no other) user_is = nothing (uic_group refl other)
uic_sought true group user = by (dec_le group 0o377) (dec_le user 0o377)
  where
    by : Dec (group ≤ 0o377) → Dec (user ≤ 0o377) → PartSought (UicFits true group user)
    by (yes small-group) (yes small-user) =
        found {v = some (record { group = group; user = user })}
        (record { says = Y.SayableUic.uic small-group small-user; there = refl; group_is = refl; user_is = refl })
    by (yes small-group) (no large) = nothing (uic_large_user refl (omega arith))
    by (no large) small-user = nothing (uic_large_group refl (omega arith))

-- all of them, in the eight words from a word of the records on
module _ (records : List ℕ) (at : ℕ) where
  abbrev present : ℕ
  present = get_or records at 0

  pub front_sought : PartSought (FrontFits records at)
  front_sought =
      by (dec_le present 15) (device_sought (eqb (present % 2) 1) (get_or records (at + 1) 0) (get_or records (at + 2) 0))
      (file_sought (eqb ((present / 2) % 2) 1) (eqb ((present / 4) % 2) 1) (get_or records (at + 3) 0) (get_or records (at + 4) 0) (get_or records (at + 5) 0))
      (uic_sought (eqb (present / 8) 1) (get_or records (at + 6) 0) (get_or records (at + 7) 0))
    where
      by : Dec (present ≤ 15) → PartSought (DeviceFits (eqb (present % 2) 1) (get_or records (at + 1) 0) (get_or records (at + 2) 0))
          → PartSought (FileFits (eqb ((present / 2) % 2) 1) (eqb ((present / 4) % 2) 1) (get_or records (at + 3) 0) (get_or records (at + 4) 0) (get_or records (at + 5) 0))
          → PartSought (UicFits (eqb (present / 8) 1) (get_or records (at + 6) 0) (get_or records (at + 7) 0)) → PartSought (FrontFits records at)
      by (yes few) (found d) (found f) (found u) = found (front_fits records at refl refl refl refl refl few d f u)
      by (yes few) (found d) (found f) (nothing never) = nothing (front_uic records at refl refl refl refl refl never)
      by (yes few) (found d) (nothing never) u = nothing (front_file records at refl refl refl never)
      by (yes few) (nothing never) f u = nothing (front_device records at refl refl refl never)
      by (no large) d f u = nothing (front_large records at refl (omega arith))
