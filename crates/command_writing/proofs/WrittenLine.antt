-- The line that is written of a reading has that reading, and no line that has it is shorter.
use Prim.Native.Nat.{ℕ, ◌≤◌}
use mathlib.Core.Path.{◌≡◌, refl, sym, ap, subst, ◌∙◌}
use mathlib.Core.List.{List, [], ◌∷◌, ◌++◌, append-nil}
use mathlib.Core.Option.{Option, some}
use native.Mathlib.Omega.{arith}
use lib.ListN.{length, length-append}
use Rattle.radix.specs.Names.{is_letter}
use Rattle.numerals.specs.Digits.{value_of}
use Rattle.command_grammar.specs.LineCharacters.{is_octal, comma, colon, slash, less, opening, closing}
use Rattle.command_grammar.specs.Parsed.{Device, FileName, Uic, Switch, Specification, Parsed}
use Rattle.command_grammar.specs.Grammar.{All, Between, Some, IsDevice, IsFile, IsUic, AreValues, IsSwitch, AreSwitches, IsSpecification, IsSide, Command}
use Rattle.command_grammar.specs.Grammar as G
use Rattle.command_grammar.specs.Bounded.{BoundedDevice, BoundedUic, BoundedSpecification, BoundedSide, BoundedInput, Bounded}
use Rattle.command_grammar.specs.Bounded as B
use Rattle.command_grammar.specs.Reading.{Reading, Reads, reads}
use Rattle.command_grammar.proofs.GrammarOne.{reads_one}
use Rattle.command_writing.specs.WrittenLine.{octal_digits, written_unit, written_device, written_file, written_uic, written_values, written_switches}
use Rattle.command_writing.specs.WrittenLine.{written_specification, written_side, written}
use Rattle.command_writing.proofs.OctalDigits.{octal_digits_law, octal_worth, octal_least, unit_digits, unit_worth, unit_least}

-- a device

device_of : (l u : List ℕ) (unit : ℕ) → Between 2 3 is_letter l → All is_octal u → value_of 8 u ≡ unit
    → IsDevice (l ++ (u ++ (colon ∷ []))) (some (record { letters = l; unit = unit }))
device_of l u unit letters all is =
    subst (λ (n : ℕ). IsDevice (l ++ (u ++ (colon ∷ []))) (some (record { letters = l; unit = n }))) is (G.IsDevice.device letters all)

device_written : (s : List ℕ) (d : Option Device) → IsDevice s d → BoundedDevice d → IsDevice (written_device d) d
unfolding written_device
device_written s d G.IsDevice.absent B.BoundedDevice.absent = G.IsDevice.absent
device_written s d (G.IsDevice.device {l} {u} letters all) (B.BoundedDevice.device bound) =
    device_of l (written_unit (value_of 8 u)) (value_of 8 u) letters (unit_digits (value_of 8 u)) (unit_worth (value_of 8 u) (omega (arith, bound)))

device_short : (s : List ℕ) (d : Option Device) → IsDevice s d → length (written_device d) ≤ length s
unfolding written_device
device_short s d G.IsDevice.absent = omega arith
device_short s d (G.IsDevice.device {l} {u} letters all) =
    omega (
      arith,
      length-append l (written_unit (value_of 8 u) ++ (colon ∷ [])),
      length-append (written_unit (value_of 8 u)) (colon ∷ []),
      length-append l (u ++ (colon ∷ [])),
      length-append u (colon ∷ []),
      unit_least (value_of 8 u) u all refl,
    )

-- a file is written as it stands

file_written : (s : List ℕ) (f : Option FileName) → IsFile s f → s ≡ written_file f
unfolding written_file
file_written s f G.IsFile.absent = refl
file_written s f (G.IsFile.name {n} run) = sym (append-nil n)
file_written s f (G.IsFile.extended run more) = refl

-- group and user

uic_of_law : (g u : List ℕ) (group user : ℕ) → Some is_octal g → Some is_octal u → value_of 8 g ≡ group → value_of 8 u ≡ user
    → IsUic (opening ∷ (g ++ (comma ∷ (u ++ (closing ∷ []))))) (some (record { group = group; user = user }))
uic_of_law g u group user some-g some-u is-g is-u =
    subst (λ (m : ℕ). IsUic (opening ∷ (g ++ (comma ∷ (u ++ (closing ∷ []))))) (some (record { group = m; user = user }))) is-g
    (subst (λ (n : ℕ). IsUic (opening ∷ (g ++ (comma ∷ (u ++ (closing ∷ []))))) (some (record { group = value_of 8 g; user = n }))) is-u (G.IsUic.uic some-g some-u))

uic_written : (s : List ℕ) (u : Option Uic) → IsUic s u → BoundedUic u → IsUic (written_uic u) u
unfolding written_uic
uic_written s u G.IsUic.absent B.BoundedUic.absent = G.IsUic.absent
uic_written s u (G.IsUic.uic {g} {u = w} some-g some-w) (B.BoundedUic.uic group user) =
    uic_of_law (octal_digits (value_of 8 g)) (octal_digits (value_of 8 w)) (value_of 8 g) (value_of 8 w)
    (octal_digits_law (value_of 8 g)) (octal_digits_law (value_of 8 w)) (octal_worth (value_of 8 g) group) (octal_worth (value_of 8 w) user)

uic_short : (s : List ℕ) (u : Option Uic) → IsUic s u → length (written_uic u) ≤ length s
unfolding written_uic
uic_short s u G.IsUic.absent = omega arith
uic_short s u (G.IsUic.uic {g} {u = w} some-g some-w) =
    omega (
      arith,
      length-append (octal_digits (value_of 8 g)) (comma ∷ (octal_digits (value_of 8 w) ++ (closing ∷ []))),
      length-append (octal_digits (value_of 8 w)) (closing ∷ []),
      length-append g (comma ∷ (w ++ (closing ∷ []))),
      length-append w (closing ∷ []),
      octal_least (value_of 8 g) g some-g refl,
      octal_least (value_of 8 w) w some-w refl,
    )

-- switches are written as they stand

values_written : (s : List ℕ) (vs : List (List ℕ)) → AreValues s vs → s ≡ written_values vs
unfolding written_values
values_written s vs G.AreValues.end = refl
values_written s vs (G.AreValues.more {v} {s = t} {vs = us} run rest) = ap (λ (l : List ℕ). colon ∷ (v ++ l)) (values_written t us rest)

switch_written : (s : List ℕ) (w : Switch) → IsSwitch s w → s ≡ slash ∷ (w.name ++ written_values w.values)
switch_written s w (G.IsSwitch.switch {c} {n} {s = t} {vs} letter run values) = ap (λ (l : List ℕ). slash ∷ (c ∷ (n ++ l))) (values_written t vs values)

switches_written : (s : List ℕ) (ws : List Switch) → AreSwitches s ws → s ≡ written_switches ws
unfolding written_switches
switches_written s ws G.AreSwitches.end = refl
switches_written s ws (G.AreSwitches.more {s = a} {t = b} {w} {ws = us} one rest) =
    ap (λ (l : List ℕ). l ++ b) (switch_written a w one)
    ∙ ap (λ (l : List ℕ). (slash ∷ (w.name ++ written_values w.values)) ++ l) (switches_written b us rest)

-- a specification

pub specification_written : (s : List ℕ) (v : Specification) → IsSpecification s v → BoundedSpecification v → IsSpecification (written_specification v) v
unfolding written_specification
specification_written s v (G.IsSpecification.specification {a} {b} {c} {e} {d} {f} {u} {ws} at-device at-file at-uic at-switches) bounds =
    G.IsSpecification.specification
    (device_written a d at-device bounds.device)
    (subst (λ (l : List ℕ). IsFile l f) (file_written b f at-file) at-file)
    (uic_written c u at-uic bounds.uic)
    (subst (λ (l : List ℕ). AreSwitches l ws) (switches_written e ws at-switches) at-switches)

pub specification_short : (s : List ℕ) (v : Specification) → IsSpecification s v → length (written_specification v) ≤ length s
unfolding written_specification
specification_short s v (G.IsSpecification.specification {a} {b} {c} {e} {d} {f} {u} {ws} at-device at-file at-uic at-switches) =
    omega (
      arith,
      length-append a (b ++ (c ++ e)),
      length-append b (c ++ e),
      length-append c e,
      length-append (written_device d) (written_file f ++ (written_uic u ++ written_switches ws)),
      length-append (written_file f) (written_uic u ++ written_switches ws),
      length-append (written_uic u) (written_switches ws),
      device_short a d at-device,
      ap (λ (l : List ℕ). length l) (file_written b f at-file),
      uic_short c u at-uic,
      ap (λ (l : List ℕ). length l) (switches_written e ws at-switches),
    )

-- a side; what is written of more than one specification

more_written : (t : List ℕ) (v : Specification) (vs : List Specification) → IsSide t vs → written_side (v ∷ vs) ≡ written_specification v ++ (comma ∷ written_side vs)
unfolding written_side
more_written t v vs (G.IsSide.one one) = refl
more_written t v vs (G.IsSide.more one rest) = refl

pub side_written : (s : List ℕ) (vs : List Specification) → IsSide s vs → BoundedSide vs → IsSide (written_side vs) vs
unfolding written_side
side_written s vs (G.IsSide.one {v} one) (B.BoundedSide.more bounds nothing) = G.IsSide.one (specification_written s v one bounds)
side_written s vs (G.IsSide.more {s = a} {t = b} {v} {vs = us} one rest) (B.BoundedSide.more bounds others) =
    subst (λ (l : List ℕ). IsSide l (v ∷ us)) (sym (more_written b v us rest))
    (G.IsSide.more (specification_written a v one bounds) (side_written b us rest others))

pub side_short : (s : List ℕ) (vs : List Specification) → IsSide s vs → length (written_side vs) ≤ length s
unfolding written_side
side_short s vs (G.IsSide.one {v} one) = specification_short s v one
side_short s vs (G.IsSide.more {s = a} {t = b} {v} {vs = us} one rest) =
    omega (
      arith,
      ap (λ (l : List ℕ). length l) (more_written b v us rest),
      length-append (written_specification v) (comma ∷ written_side us),
      length-append a (comma ∷ b),
      specification_short a v one,
      side_short b us rest,
    )

-- the whole line

command_written : (line : List ℕ) (said : Parsed) → Command line said → Bounded said → Command (written said) said
unfolding written
command_written line said (G.Command.output {o} output) bounds =
    subst (λ (l : List ℕ). Command l said) (sym (append-nil (written_side o))) (G.Command.output (side_written line o output bounds.output))
command_written line said (G.Command.both {s} {t} {o} {i} output input) bounds =
    G.Command.both (side_written s o output bounds.output) (side_written t i input (input_side bounds.input))
  where
    input_side : {i : List Specification} → BoundedInput (some i) → BoundedSide i
    input_side (B.BoundedInput.side bounds) = bounds

command_short : (line : List ℕ) (said : Parsed) → Command line said → length (written said) ≤ length line
unfolding written
command_short line said (G.Command.output {o} output) = omega (arith, ap (λ (l : List ℕ). length l) (append-nil (written_side o)), side_short line o output)
command_short line said (G.Command.both {s} {t} {o} {i} output input) =
    omega (
      arith,
      length-append (written_side o) (less ∷ written_side i),
      length-append s (less ∷ t),
      side_short s o output,
      side_short t i input,
    )

-- "Reading what was written gives the same specifications"
pub written_reads : (line : List ℕ) (reading : Reading) → Reads line reading → Reads (written reading) reading
written_reads line reading (reads says bounds) = reads (command_written line reading says bounds) bounds

-- a line that is written is never longer than one that it was read from
pub written_shortest : (line : List ℕ) (reading : Reading) → Reads line reading → length (written reading) ≤ length line
written_shortest line reading (reads says bounds) = command_short line reading says

-- "writing a reading twice gives the same bytes": written, read and written again
pub written_again : (line : List ℕ) (reading again : Reading) → Reads line reading → Reads (written reading) again → written again ≡ written reading
written_again line reading again read read' =
    ap written (reads_one (written reading) again reading read' (written_reads line reading read))

-- a line says no more than one reading, so that of two readings that are written alike there is one
pub written_one : (line other : List ℕ) (r q : Reading) → Reads line r → Reads other q → written r ≡ written q → r ≡ q
written_one line other r q read read' same =
    reads_one (written r) r q (written_reads line r read) (subst (λ (l : List ℕ). Reads l q) (sym same) (written_reads other q read'))
