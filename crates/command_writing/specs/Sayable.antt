-- Means: what a specification holds that some line says, part by part, its numbers within their bounds. The laws `SayableLines` have that these are exactly those.
use Rattle.std.specs.Prelude.{ℕ, ◌≤◌, ◌≡◌, true, List, [], ◌∷◌, length}
use Rattle.std.proofs.Math.Option.{Option, none, some}
use Rattle.radix.specs.Names.{is_letter, is_letter_or_digit}
use Rattle.command_grammar.specs.Parsed.{Device, FileName, Uic, Switch, Specification}
use Rattle.command_grammar.specs.Grammar.{Between}
use Rattle.command_grammar.specs.Reading.{Reading}

pub data SayableDevice : Option Device → Type 0 where
  absent : SayableDevice none
  device : {d : Device} → Between 2 3 is_letter d.letters → d.unit ≤ 7 → SayableDevice (some d)

pub data SayableExtension : Option (List ℕ) → Type 0 where
  absent : SayableExtension none
  extension : {e : List ℕ} → Between 1 3 is_letter_or_digit e → SayableExtension (some e)

pub data SayableFile : Option FileName → Type 0 where
  absent : SayableFile none
  file : {f : FileName} → Between 1 6 is_letter_or_digit f.name → SayableExtension f.extension → SayableFile (some f)

pub data SayableUic : Option Uic → Type 0 where
  absent : SayableUic none
  uic : {u : Uic} → u.group ≤ 0o377 → u.user ≤ 0o377 → SayableUic (some u)

-- a letter, and up to 5 letters and digits
pub data SwitchName : List ℕ → Type 0 where
  begins : {c : ℕ} {n : List ℕ} → is_letter c ≡ true → Between 0 5 is_letter_or_digit n → SwitchName (c ∷ n)

-- each of a list
pub data EachSays {A : Type 0} (Says : A → Type 0) : List A → Type 0 where
  end : EachSays Says []
  more : {v : A} {vs : List A} → Says v → EachSays Says vs → EachSays Says (v ∷ vs)

-- so many of them
pub record Each {A : Type 0} (Says : A → Type 0) (many : ℕ) (vs : List A) : Type 0 where
  pub long : length vs ≡ many
  pub all : EachSays Says vs

pub record SayableSwitch (w : Switch) : Type 0 where
  pub name : SwitchName w.name
  pub values : EachSays (Between 1 6 is_letter_or_digit) w.values

pub record SayableSpecification (v : Specification) : Type 0 where
  pub device : SayableDevice v.device
  pub file : SayableFile v.file
  pub uic : SayableUic v.uic
  pub switches : EachSays SayableSwitch v.switches

-- a side of so many specifications, at least one
pub record SayableSide (many : ℕ) (vs : List Specification) : Type 0 where
  pub each : Each SayableSpecification many vs
  pub least : 1 ≤ many

pub data SayableInput : ℕ → Option (List Specification) → Type 0 where
  absent : SayableInput 0 none
  side : {many : ℕ} {vs : List Specification} → SayableSide many vs → SayableInput many (some vs)

pub record SayableReading (outputs inputs : ℕ) (reading : Reading) : Type 0 where
  pub output : SayableSide outputs reading.output
  pub input : SayableInput inputs reading.input
