-- Means: the bounds as tests, one for each part of a line, which the code answers.
use Rattle.std.specs.Prelude.{ℕ, Bool, true, ◌&&◌, List, [], ◌∷◌, leb}
use Rattle.std.proofs.Math.Option.{Option, none, some}
use Rattle.command_grammar.specs.Parsed.{Device, Uic, Specification, Parsed}
use Rattle.command_grammar.specs.Reading.{input_of}

abbrev pub unit_keeps : ℕ → Bool
unit_keeps number = leb number 7

-- a group, and a user
abbrev pub octet_keeps : ℕ → Bool
octet_keeps number = leb number 0o377

abbrev pub device_keeps : Option Device → Bool
device_keeps none = true
device_keeps (some d) = unit_keeps d.unit

abbrev pub uic_keeps : Option Uic → Bool
uic_keeps none = true
uic_keeps (some u) = octet_keeps u.group && octet_keeps u.user

abbrev pub specification_keeps : Specification → Bool
specification_keeps v = device_keeps v.device && uic_keeps v.uic

abbrev pub side_keeps : List Specification → Bool
side_keeps [] = true
side_keeps (v ∷ vs) = specification_keeps v && side_keeps vs

unfoldable pub line_keeps : Parsed → Bool
line_keeps said = side_keeps said.output && side_keeps (input_of said.input)
