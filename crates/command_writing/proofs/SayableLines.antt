-- What can be said is what some line says: every reading of a line is made so, and whatever is made so has a line.
use Prim.Native.Nat.{ℕ, ◌≤◌}
use mathlib.Core.Path.{◌≡◌, refl, subst}
use mathlib.Core.List.{List, [], ◌∷◌, ◌++◌}
use mathlib.Core.Option.{Option, none, some}
use native.Mathlib.Omega.{arith}
use lib.ListN.{length}
use Rattle.numerals.specs.Digits.{value_of}
use Rattle.command_grammar.specs.LineCharacters.{comma, colon, opening, closing}
use Rattle.command_grammar.specs.Parsed.{Device, FileName, Uic, Switch, Specification, Parsed}
use Rattle.radix.specs.Names.{is_letter_or_digit}
use Rattle.command_grammar.specs.Grammar.{Between, IsDevice, IsFile, IsUic, AreValues, IsSwitch, AreSwitches, IsSpecification, IsSide, Command}
use Rattle.command_grammar.specs.Grammar as G
use Rattle.command_grammar.specs.Bounded.{BoundedDevice, BoundedUic, BoundedSide, BoundedInput, Bounded}
use Rattle.command_grammar.specs.Bounded as B
use Rattle.command_grammar.specs.Reading.{input_of, Reading, Reads, reads}
use Rattle.command_writing.specs.WrittenLine.{octal_digits, written_unit}
use Rattle.command_writing.specs.Records.{Given}
use Rattle.command_writing.specs.Sayable.{SayableDevice, SayableExtension, SayableFile, SayableUic, EachSays, SayableSwitch}
use Rattle.command_writing.specs.Sayable.{SayableSpecification, SayableSide, SayableInput, SayableReading}
use Rattle.command_writing.specs.Sayable as Y
use Rattle.command_writing.proofs.OctalDigits.{octal_digits_law, octal_worth, unit_digits, unit_worth}

-- what a line says can be said

device_said : {s : List ℕ} {d : Option Device} → IsDevice s d → BoundedDevice d → SayableDevice d
device_said G.IsDevice.absent bounds = Y.SayableDevice.absent
device_said (G.IsDevice.device letters all) (B.BoundedDevice.device bound) = Y.SayableDevice.device letters bound

file_said : {s : List ℕ} {f : Option FileName} → IsFile s f → SayableFile f
file_said G.IsFile.absent = Y.SayableFile.absent
file_said (G.IsFile.name run) = Y.SayableFile.file run Y.SayableExtension.absent
file_said (G.IsFile.extended run more) = Y.SayableFile.file run (Y.SayableExtension.extension more)

uic_said : {s : List ℕ} {u : Option Uic} → IsUic s u → BoundedUic u → SayableUic u
uic_said G.IsUic.absent bounds = Y.SayableUic.absent
uic_said (G.IsUic.uic g u) (B.BoundedUic.uic group user) = Y.SayableUic.uic group user

values_said : {s : List ℕ} {vs : List (List ℕ)} → AreValues s vs → EachSays (Between 1 6 is_letter_or_digit) vs
values_said G.AreValues.end = Y.EachSays.end
values_said (G.AreValues.more run rest) = Y.EachSays.more run (values_said rest)

switch_said : {s : List ℕ} {w : Switch} → IsSwitch s w → SayableSwitch w
switch_said (G.IsSwitch.switch letter run values) = record { name = Y.SwitchName.begins letter run; values = values_said values }

switches_said : {s : List ℕ} {ws : List Switch} → AreSwitches s ws → EachSays SayableSwitch ws
switches_said G.AreSwitches.end = Y.EachSays.end
switches_said (G.AreSwitches.more one rest) = Y.EachSays.more (switch_said one) (switches_said rest)

specification_said : {s : List ℕ} {v : Specification} → IsSpecification s v → B.BoundedSpecification v → SayableSpecification v
specification_said (G.IsSpecification.specification at-device at-file at-uic at-switches) bounds =
    record {
      device = device_said at-device bounds.device;
      file = file_said at-file;
      uic = uic_said at-uic bounds.uic;
      switches = switches_said at-switches;
    }

side_said : {s : List ℕ} {vs : List Specification} → IsSide s vs → BoundedSide vs → EachSays SayableSpecification vs × (1 ≤ length vs)
side_said (G.IsSide.one one) (B.BoundedSide.more bounds rest) = (Y.EachSays.more (specification_said one bounds) Y.EachSays.end, omega arith)
side_said (G.IsSide.more one rest) (B.BoundedSide.more bounds others) = (Y.EachSays.more (specification_said one bounds) (side_said rest others).0, omega arith)

sayable_side : {many : ℕ} {vs : List Specification} → EachSays SayableSpecification vs × (1 ≤ length vs) → length vs ≡ many → SayableSide many vs
sayable_side side long = record { each = record { long = long; all = side.0 }; least = omega (arith, side.1) }

command_said : {outputs inputs : ℕ} {line : List ℕ} {said : Parsed} → Command line said → Bounded said → length said.output ≡ outputs
    → length (input_of said.input) ≡ inputs → SayableReading outputs inputs said
command_said (G.Command.output output) bounds long none_there =
    record { output = sayable_side (side_said output bounds.output) long; input = subst (λ n. SayableInput n none) none_there Y.SayableInput.absent }
command_said (G.Command.both {i} output input) bounds long longer =
    record { output = sayable_side (side_said output bounds.output) long; input = Y.SayableInput.side (sayable_side (at bounds.input) longer) }
  where
    at : BoundedInput (some i) → EachSays SayableSpecification i × (1 ≤ length i)
    at (B.BoundedInput.side side) = side_said input side

pub given_said : {outputs inputs : ℕ} {records : List ℕ} {reading : Reading} → Given outputs inputs records reading → SayableReading outputs inputs reading
given_said {outputs} {inputs} {records} {reading} given = at given.reads
  where
    at : {line : List ℕ} → Reads line reading → SayableReading outputs inputs reading
    at (reads says bounds) = command_said says bounds given.gives.output given.gives.input

-- whatever can be said has a line

device_line : {d : Option Device} → SayableDevice d → (s : List ℕ) × IsDevice s d × BoundedDevice d
device_line Y.SayableDevice.absent = ([], G.IsDevice.absent, B.BoundedDevice.absent)
device_line (Y.SayableDevice.device {d} letters bound) = (
  d.letters ++ (written_unit d.unit ++ (colon ∷ [])),
  subst (λ n. IsDevice (d.letters ++ (written_unit d.unit ++ (colon ∷ []))) (some (record { letters = d.letters; unit = n })))
      (unit_worth d.unit (omega (arith, bound))) (G.IsDevice.device letters (unit_digits d.unit)),
  B.BoundedDevice.device bound,
)

file_line : {f : Option FileName} → SayableFile f → (s : List ℕ) × IsFile s f
file_line Y.SayableFile.absent = ([], G.IsFile.absent)
file_line (Y.SayableFile.file {f} run says) = at f.extension says
  where
    at : (e : Option (List ℕ)) → SayableExtension e → (s : List ℕ) × IsFile s (some (record { name = f.name; extension = e }))
    at none Y.SayableExtension.absent = (f.name, G.IsFile.name run)
    at (some e) (Y.SayableExtension.extension more) = (f.name ++ (46 ∷ e), G.IsFile.extended run more)

uic_line : {u : Option Uic} → SayableUic u → (s : List ℕ) × IsUic s u × BoundedUic u
uic_line Y.SayableUic.absent = ([], G.IsUic.absent, B.BoundedUic.absent)
uic_line (Y.SayableUic.uic {u} group user) = (
  opening ∷ (octal_digits u.group ++ (comma ∷ (octal_digits u.user ++ (closing ∷ [])))),
  subst (λ m. IsUic (opening ∷ (octal_digits u.group ++ (comma ∷ (octal_digits u.user ++ (closing ∷ []))))) (some (record { group = m; user = u.user })))
      (octal_worth u.group group)
      (subst (λ n. IsUic (opening ∷ (octal_digits u.group ++ (comma ∷ (octal_digits u.user ++ (closing ∷ []))))) (some (record { group = value_of 8 (octal_digits u.group); user = n })))
      (octal_worth u.user user) (G.IsUic.uic (octal_digits_law u.group) (octal_digits_law u.user))),
  B.BoundedUic.uic group user,
)

values_line : {vs : List (List ℕ)} → EachSays (Between 1 6 is_letter_or_digit) vs → (s : List ℕ) × AreValues s vs
values_line Y.EachSays.end = ([], G.AreValues.end)
values_line (Y.EachSays.more {v} run rest) = (colon ∷ (v ++ (values_line rest).0), G.AreValues.more run (values_line rest).1)

switch_line : (w : Switch) → SayableSwitch w → (s : List ℕ) × IsSwitch s w
switch_line w says = at w.name says.name
  where
    at : (name : List ℕ) → Y.SwitchName name → (s : List ℕ) × IsSwitch s (record { name = name; values = w.values })
    at name (Y.SwitchName.begins {c} {n} letter run) =
        (47 ∷ (c ∷ (n ++ (values_line says.values).0)), G.IsSwitch.switch letter run (values_line says.values).1)

switches_line : {ws : List Switch} → EachSays SayableSwitch ws → (s : List ℕ) × AreSwitches s ws
switches_line Y.EachSays.end = ([], G.AreSwitches.end)
switches_line (Y.EachSays.more {v = w} says rest) = ((switch_line w says).0 ++ (switches_line rest).0, G.AreSwitches.more (switch_line w says).1 (switches_line rest).1)

specification_line : (v : Specification) → SayableSpecification v → (s : List ℕ) × IsSpecification s v × B.BoundedSpecification v
specification_line v says =
    let d = device_line says.device in
    let u = uic_line says.uic in (
      _,
      G.IsSpecification.specification d.1 (file_line says.file).1 u.1 (switches_line says.switches).1,
      record { device = d.2; uic = u.2 },
    )

side_line : {vs : List Specification} → EachSays SayableSpecification vs → 1 ≤ length vs → (s : List ℕ) × IsSide s vs × BoundedSide vs
side_line Y.EachSays.end least = absurd (omega arith)
side_line (Y.EachSays.more {v} says Y.EachSays.end) least =
    let one = specification_line v says in
    (_, G.IsSide.one one.1, B.BoundedSide.more one.2 B.BoundedSide.end)
side_line (Y.EachSays.more {v} says (Y.EachSays.more more rest)) least =
    let one = specification_line v says in
    let others = side_line (Y.EachSays.more more rest) (omega arith) in
    (_, G.IsSide.more one.1 others.1, B.BoundedSide.more one.2 others.2)

pub said_line : {outputs inputs : ℕ} {reading : Reading} → SayableReading outputs inputs reading → (line : List ℕ) × Reads line reading
said_line {outputs} {inputs} {reading} says = at reading.input says.input
  where
    first : (s : List ℕ) × IsSide s reading.output × BoundedSide reading.output
    first = side_line says.output.each.all (omega (arith, says.output.each.long, says.output.least))

    at : {n : ℕ} (i : Option (List Specification)) → SayableInput n i → (line : List ℕ) × Reads line (record { output = reading.output; input = i })
    at none nothing = (first.0, reads (G.Command.output first.1) (record { output = first.2; input = B.BoundedInput.absent }))
    at (some vs) (Y.SayableInput.side side) =
        let second = side_line side.each.all (omega (arith, side.each.long, side.least)) in
        (_, reads (G.Command.both first.1 second.1) (record { output = first.2; input = B.BoundedInput.side second.2 }))

-- so many specifications on each side
input_long : {many : ℕ} {i : Option (List Specification)} → SayableInput many i → length (input_of i) ≡ many
input_long Y.SayableInput.absent = refl
input_long (Y.SayableInput.side side) = side.each.long

pub said_long : {outputs inputs : ℕ} {reading : Reading} → SayableReading outputs inputs reading → (length reading.output ≡ outputs) × (length (input_of reading.input) ≡ inputs)
said_long says = (says.output.each.long, input_long says.input)
