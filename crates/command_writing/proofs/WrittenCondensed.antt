-- "no blanks": a line of the grammar has none of the characters that CSI1 drops, and so the line that is written has none.
use Prim.Native.Nat.{ℕ, ◌≤◌}
use mathlib.Core.Path.{◌≡◌, refl}
use mathlib.Core.Logic.{◌⊎◌, inl, inr}
use mathlib.Core.Bool.{Bool, true, false}
use mathlib.Core.List.{List, [], ◌∷◌, ◌++◌}
use mathlib.Core.Option.{Option}
use native.Mathlib.Omega.{arith}
use borrow.Author.Tests.{leb-true, ne_eqb}
use lib.Dec.{leb}
use Rattle.answers.proofs.RefusalsTests.{and_left, and_right}
use Rattle.radix.specs.Names.{is_letter, is_letter_or_digit}
use Rattle.command_cursor.proofs.Classes.{letter_or_digit}
use Rattle.command_grammar.specs.LineCharacters.{is_octal}
use Rattle.command_grammar.specs.Parsed.{Device, FileName, Uic, Switch, Specification, Parsed}
use Rattle.command_grammar.specs.Grammar.{All, nil, cons, IsDevice, IsFile, IsUic, AreValues, IsSwitch, AreSwitches, IsSpecification, IsSide, Command}
use Rattle.command_grammar.specs.Grammar as G
use Rattle.command_grammar.specs.Reading.{Reading, Reads, reads}
use Rattle.command_grammar.proofs.ReaderHeads.{letter_alnum}
use Rattle.command.specs.Condensed.{is_dropped, condensed}
use Rattle.command_writing.specs.WrittenLine.{written}
use Rattle.command_writing.proofs.WrittenLine.{written_reads}

-- all is kept
data Solid : List ℕ → Type 0 where
  end : Solid []
  more : {x : ℕ} {s : List ℕ} → is_dropped x ≡ false → Solid s → Solid (x ∷ s)

solid_same : (s : List ℕ) → Solid s → condensed s ≡ s
unfolding condensed
solid_same s end = refl
solid_same s (more {x} {s = rest} kept others) = rw (kept, solid_same rest others)

solid_append : {s t : List ℕ} → Solid s → Solid t → Solid (s ++ t)
solid_append end behind = behind
solid_append (more kept others) behind = more kept (solid_append others behind)

kept_from : (x : ℕ) → 33 ≤ x → x ≤ 126 → is_dropped x ≡ false
kept_from x low high =
    rw (ne_eqb x 32 (λ is. omega arith), ne_eqb x 9 (λ is. omega arith), ne_eqb x 0 (λ is. omega arith), ne_eqb x 127 (λ is. omega arith))

alnum_kept : (x : ℕ) → is_letter_or_digit x ≡ true → is_dropped x ≡ false
alnum_kept x named = by (letter_or_digit x named)
  where
    by : ((65 ≤ x) × (x ≤ 90)) ⊎ ((48 ≤ x) × (x ≤ 57)) → is_dropped x ≡ false
    by (inl letter) = kept_from x (omega (arith, letter.0)) (omega (arith, letter.1))
    by (inr digit) = kept_from x (omega (arith, digit.0)) (omega (arith, digit.1))

letter_kept : (x : ℕ) → is_letter x ≡ true → is_dropped x ≡ false
letter_kept x letter = alnum_kept x (letter_alnum x letter)

octal_kept : (x : ℕ) → is_octal x ≡ true → is_dropped x ≡ false
octal_kept x octal =
    kept_from x (omega (arith, leb-true 48 x (and_left (leb 48 x) (leb x 55) octal))) (omega (arith, leb-true x 55 (and_right (leb 48 x) (leb x 55) octal)))

all_solid : {test : ℕ → Bool} → ((x : ℕ) → test x ≡ true → is_dropped x ≡ false) → {s : List ℕ} → All test s → Solid s
all_solid kept nil = end
all_solid kept (cons {c} passes others) = more (kept c passes) (all_solid kept others)

-- part by part

device_solid : {s : List ℕ} {d : Option Device} → IsDevice s d → Solid s
device_solid G.IsDevice.absent = end
device_solid (G.IsDevice.device letters digits) =
    solid_append (all_solid letter_kept letters.all) (solid_append (all_solid octal_kept digits) (more refl end))

file_solid : {s : List ℕ} {f : Option FileName} → IsFile s f → Solid s
file_solid G.IsFile.absent = end
file_solid (G.IsFile.name run) = all_solid alnum_kept run.all
file_solid (G.IsFile.extended run others) = solid_append (all_solid alnum_kept run.all) (more refl (all_solid alnum_kept others.all))

uic_solid : {s : List ℕ} {u : Option Uic} → IsUic s u → Solid s
uic_solid G.IsUic.absent = end
uic_solid (G.IsUic.uic group user) =
    more refl (solid_append (all_solid octal_kept group.all) (more refl (solid_append (all_solid octal_kept user.all) (more refl end))))

values_solid : {s : List ℕ} {vs : List (List ℕ)} → AreValues s vs → Solid s
values_solid G.AreValues.end = end
values_solid (G.AreValues.more run rest) = more refl (solid_append (all_solid alnum_kept run.all) (values_solid rest))

switch_solid : {s : List ℕ} {w : Switch} → IsSwitch s w → Solid s
switch_solid (G.IsSwitch.switch {c} letter run values) =
    more refl (more (letter_kept c letter) (solid_append (all_solid alnum_kept run.all) (values_solid values)))

switches_solid : {s : List ℕ} {ws : List Switch} → AreSwitches s ws → Solid s
switches_solid G.AreSwitches.end = end
switches_solid (G.AreSwitches.more one rest) = solid_append (switch_solid one) (switches_solid rest)

specification_solid : {s : List ℕ} {v : Specification} → IsSpecification s v → Solid s
specification_solid (G.IsSpecification.specification at-device at-file at-uic at-switches) =
    solid_append (device_solid at-device) (solid_append (file_solid at-file) (solid_append (uic_solid at-uic) (switches_solid at-switches)))

side_solid : {s : List ℕ} {vs : List Specification} → IsSide s vs → Solid s
side_solid (G.IsSide.one one) = specification_solid one
side_solid (G.IsSide.more one rest) = solid_append (specification_solid one) (more refl (side_solid rest))

command_solid : {s : List ℕ} {said : Parsed} → Command s said → Solid s
command_solid (G.Command.output output) = side_solid output
command_solid (G.Command.both output input) = solid_append (side_solid output) (more refl (side_solid input))

-- a line that has a reading is condensed
pub read_condensed : (line : List ℕ) (reading : Reading) → Reads line reading → condensed line ≡ line
read_condensed line reading (reads says bounds) = solid_same line (command_solid says)

-- "no blanks"
pub written_condensed : (line : List ℕ) (reading : Reading) → Reads line reading → condensed (written reading) ≡ written reading
written_condensed line reading read = read_condensed (written reading) reading (written_reads line reading read)
