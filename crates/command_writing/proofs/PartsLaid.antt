-- The parts of a specification from their numbers: when none fits, and what is laid of one that does.
use Prim.Native.Nat.{ℕ, ◌≤◌, ◌<◌}
use mathlib.Core.Path.{◌≡◌, refl, sym, ap, ◌∙◌}
use mathlib.Core.Bool.{Bool, true, false}
use mathlib.Core.List.{List, [], ◌∷◌}
use mathlib.Core.Option.{Option, none, some}
use native.Mathlib.Omega.{arith}
use Rattle.std.specs.Prelude.{Some}
use Rattle.std.specs.Prelude as P
use Rattle.radix.specs.Names.{is_letter, is_letter_or_digit}
use Rattle.radix.specs.NamesTest.{legal_name, legal_extension}
use Rattle.command_grammar.specs.LineCharacters.{comma, period, colon, opening, closing}
use Rattle.command_grammar.specs.Parsed.{Device, FileName, Uic}
use Rattle.command_grammar.specs.Grammar.{Between}
use Rattle.command_cursor.proofs.Classes.{letters_named}
use Rattle.command_writing.specs.WrittenLine.{octal_digits, written_unit, written_device, written_extension, written_file, written_uic}
use Rattle.command_writing.specs.Sayable.{SayableDevice, SayableExtension, SayableFile, SayableUic}
use Rattle.command_writing.specs.Sayable as Y
use Rattle.command_writing.specs.LaidText.{Puts, shown_word, shown_name, PartLaid}
use Rattle.command_writing.specs.LaidText as L
use Rattle.command_writing.specs.PartFits.{DeviceLetters, ExtensionOf, DeviceFits, ExtensionFits, NoFile, FileFits, UicFits}
use Rattle.command_writing.proofs.LaidPieces.{puts_both, puts_same, puts_nothing}
use Rattle.command_writing.proofs.LaidNames.{word_shown, name_shown}
use Rattle.command_writing.proofs.NameTests.{named, unnamed, extended, unextended, extension_some}

never_both : {present : Bool} → true ≡ present → present ≡ false → ⊥
never_both is other = let z : ◌≡◌ {A = ℕ} 0 1 = cc in omega arith

never_absent : {present : Bool} → false ≡ present → present ≡ true → ⊥
never_absent is other = let z : ◌≡◌ {A = ℕ} 0 1 = cc in omega arith

-- a device

device_parts : {d : Device} → SayableDevice (some d) → Between 2 3 is_letter d.letters × (d.unit ≤ 7)
device_parts (Y.SayableDevice.device letters bound) = (letters, bound)

module _ {present : Bool} {word unit : ℕ} where
  pub device_word_law : present ≡ false → (word ≡ 0 → ⊥) → (d : Option Device) → DeviceFits present word unit d → ⊥
  device_word_law gone other none fits = other (sym fits.word_is)
  device_word_law gone other (some d) fits = never_both fits.there gone

  pub device_unit : present ≡ false → (unit ≡ 0 → ⊥) → (d : Option Device) → DeviceFits present word unit d → ⊥
  device_unit gone other none fits = other (sym fits.unit_is)
  device_unit gone other (some d) fits = never_both fits.there gone

  pub device_large : present ≡ true → 7 < unit → (d : Option Device) → DeviceFits present word unit d → ⊥
  device_large there large none fits = never_absent fits.there there
  device_large there large (some d) fits = omega (arith, (device_parts fits.says).1, fits.unit_is)

  pub device_other : present ≡ true → (DeviceLetters word → ⊥) → (d : Option Device) → DeviceFits present word unit d → ⊥
  device_other there other none fits = never_absent fits.there there
  device_other there other (some d) fits = other (record { letters = d.letters; run = (device_parts fits.says).0; is = fits.word_is })

  pub device_absent : {line : List ℕ} {count : ℕ} → present ≡ false → word ≡ 0 → unit ≡ 0
      → PartLaid (DeviceFits present word unit) written_device line count (Some count) line
  unfolding written_device
  device_absent gone no_word no-unit =
      L.PartLaid.to {v = none}
      (record { says = Y.SayableDevice.absent; there = sym gone; word_is = sym no_word; unit_is = sym no-unit })
      puts_nothing

  pub device_laid : {before between further after : List ℕ} {count middle later next : ℕ} → present ≡ true → DeviceLetters word → unit ≤ 7
      → Puts before count between middle (shown_word word) → Puts between middle further later (written_unit unit) → Puts further later after next (colon ∷ [])
      → PartLaid (DeviceFits present word unit) written_device before count (Some next) after
  unfolding written_device
  device_laid there k small p q r =
      let letters : shown_word word ≡ k.letters = ap shown_word (sym k.is) ∙ word_shown k.letters k.run.most (letters_named k.run.all) in
      L.PartLaid.to {v = some (record { letters = k.letters; unit = unit })}
      (record { says = Y.SayableDevice.device k.run small; there = sym there; word_is = k.is; unit_is = refl })
      (puts_both (puts_same letters p) (puts_both q r))

-- an extension

extension_run : {e : List ℕ} → SayableExtension (some e) → Between 1 3 is_letter_or_digit e
extension_run (Y.SayableExtension.extension run) = run

module _ {present : Bool} {word : ℕ} where
  extension_named : {e : List ℕ} → ExtensionFits present word (some e) → ExtensionOf word
  extension_named {e} fits = record { extension = e; run = extension_run fits.says; is = fits.word_is }

  pub extension_word_law : present ≡ false → (word ≡ 0 → ⊥) → (e : Option (List ℕ)) → ExtensionFits present word e → ⊥
  extension_word_law gone other none fits = other (sym fits.word_is)
  extension_word_law gone other (some e) fits = never_both fits.there gone

  pub extension_blank : present ≡ true → word ≡ 0 → (e : Option (List ℕ)) → ExtensionFits present word e → ⊥
  extension_blank there blanks none fits = never_absent fits.there there
  extension_blank there blanks (some e) fits = extension_some (extension_named fits) blanks

  pub extension_other : present ≡ true → legal_extension word ≡ false → (e : Option (List ℕ)) → ExtensionFits present word e → ⊥
  extension_other there other none fits = never_absent fits.there there
  extension_other there other (some e) fits = unextended other (extension_named fits)

  pub extension_absent : {line : List ℕ} {count : ℕ} → present ≡ false → word ≡ 0 → PartLaid (ExtensionFits present word) written_extension line count (Some count) line
  extension_absent gone no_word =
      L.PartLaid.to {v = none} (record { says = Y.SayableExtension.absent; there = sym gone; word_is = sym no_word }) puts_nothing

  pub extension_laid : {before between after : List ℕ} {count middle next : ℕ} → present ≡ true → (word ≡ 0 → ⊥) → legal_extension word ≡ true
      → Puts before count between middle (period ∷ []) → Puts between middle after next (shown_word word)
      → PartLaid (ExtensionFits present word) written_extension before count (Some next) after
  extension_laid there some_word legal p q =
      let k = extended legal some_word in
      let letters : shown_word word ≡ k.extension = ap shown_word (sym k.is) ∙ word_shown k.extension k.run.most k.run.all in
      L.PartLaid.to {v = some k.extension}
      (record { says = Y.SayableExtension.extension k.run; there = sym there; word_is = k.is })
      (puts_both p (puts_same letters q))

-- a file

file_parts : {f : FileName} → SayableFile (some f) → Between 1 6 is_letter_or_digit f.name × SayableExtension f.extension
file_parts (Y.SayableFile.file run says) = (run, says)

module _ {present : Bool} {longer : Bool} {first second extension : ℕ} where
  pub file_numbers : present ≡ false → (NoFile longer first second extension → ⊥) → (f : Option FileName) → FileFits present longer first second extension f → ⊥
  file_numbers gone other none fits =
      other (record { short = sym fits.longer; first_zero = sym fits.first_is; second_zero = sym fits.second_is; extension_zero = sym fits.extension_is })
  file_numbers gone other (some f) fits = never_both fits.there gone

  pub file_other : present ≡ true → legal_name first second ≡ false → (f : Option FileName) → FileFits present longer first second extension f → ⊥
  file_other there other none fits = never_absent fits.there there
  file_other there other (some f) fits =
      unnamed other (record { name = f.name; run = (file_parts fits.says).0; first_is = fits.first_is; second_is = fits.second_is })

  pub file_extension : present ≡ true → ((e : Option (List ℕ)) → ExtensionFits longer extension e → ⊥) → (f : Option FileName)
      → FileFits present longer first second extension f → ⊥
  file_extension there never none fits = never_absent fits.there there
  file_extension there never (some f) fits = never f.extension (record { says = (file_parts fits.says).1; there = fits.longer; word_is = fits.extension_is })

  pub file_absent : {line : List ℕ} {count : ℕ} → present ≡ false → NoFile longer first second extension
      → PartLaid (FileFits present longer first second extension) written_file line count (Some count) line
  unfolding written_file
  file_absent gone zeros =
      L.PartLaid.to {v = none}
      (record {
        says = Y.SayableFile.absent;
        there = sym gone;
        longer = sym zeros.short;
        first_is = sym zeros.first_zero;
        second_is = sym zeros.second_zero;
        extension_is = sym zeros.extension_zero;
      })
      puts_nothing

  -- the name, and what its extension comes to
  pub file_laid : {before between after : List ℕ} {count middle : ℕ} {step : P.Option ℕ} → present ≡ true → legal_name first second ≡ true
      → Puts before count between middle (shown_name first second) → PartLaid (ExtensionFits longer extension) written_extension between middle step after
      → PartLaid (FileFits present longer first second extension) written_file before count step after
  unfolding written_file
  file_laid there legal p (L.PartLaid.to {v = e} fits q) =
      let k = named legal in
      let letters : shown_name first second ≡ k.name = ap (λ (w : ℕ). shown_name w second) (sym k.first_is) ∙ ap (shown_name _) (sym k.second_is) ∙ name_shown k.name k.run in
      L.PartLaid.to {v = some (record { name = k.name; extension = e })}
      (record {
        says = Y.SayableFile.file k.run fits.says;
        there = sym there;
        longer = fits.there;
        first_is = k.first_is;
        second_is = k.second_is;
        extension_is = fits.word_is;
      })
      (puts_both (puts_same letters p) q)
  file_laid there legal p (L.PartLaid.wrong never) = L.PartLaid.wrong (file_extension there never)

-- group and user

uic_parts : {u : Uic} → SayableUic (some u) → (u.group ≤ 0o377) × (u.user ≤ 0o377)
uic_parts (Y.SayableUic.uic group user) = (group, user)

module _ {present : Bool} {group user : ℕ} where
  pub uic_group : present ≡ false → (group ≡ 0 → ⊥) → (u : Option Uic) → UicFits present group user u → ⊥
  uic_group gone other none fits = other (sym fits.group_is)
  uic_group gone other (some u) fits = never_both fits.there gone

  pub uic_user : present ≡ false → (user ≡ 0 → ⊥) → (u : Option Uic) → UicFits present group user u → ⊥
  uic_user gone other none fits = other (sym fits.user_is)
  uic_user gone other (some u) fits = never_both fits.there gone

  pub uic_large_group : present ≡ true → 0o377 < group → (u : Option Uic) → UicFits present group user u → ⊥
  uic_large_group there large none fits = never_absent fits.there there
  uic_large_group there large (some u) fits = omega (arith, (uic_parts fits.says).0, fits.group_is)

  pub uic_large_user : present ≡ true → 0o377 < user → (u : Option Uic) → UicFits present group user u → ⊥
  uic_large_user there large none fits = never_absent fits.there there
  uic_large_user there large (some u) fits = omega (arith, (uic_parts fits.says).1, fits.user_is)

  pub uic_absent : {line : List ℕ} {count : ℕ} → present ≡ false → group ≡ 0 → user ≡ 0
      → PartLaid (UicFits present group user) written_uic line count (Some count) line
  unfolding written_uic
  uic_absent gone no-group no-user =
      L.PartLaid.to {v = none} (record { says = Y.SayableUic.absent; there = sym gone; group_is = sym no-group; user_is = sym no-user }) puts_nothing

  pub uic_laid : {a b c d e f : List ℕ} {count g h i j next : ℕ} → present ≡ true → group ≤ 0o377 → user ≤ 0o377
      → Puts a count b g (opening ∷ []) → Puts b g c h (octal_digits group) → Puts c h d i (comma ∷ []) → Puts d i e j (octal_digits user)
      → Puts e j f next (closing ∷ []) → PartLaid (UicFits present group user) written_uic a count (Some next) f
  unfolding written_uic
  uic_laid there small-group small-user p q r s t =
      L.PartLaid.to {v = some (record { group = group; user = user })}
      (record { says = Y.SayableUic.uic small-group small-user; there = sym there; group_is = refl; user_is = refl })
      (puts_both p (puts_both q (puts_both r (puts_both s t))))
