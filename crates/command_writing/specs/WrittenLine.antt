-- What a line says, written as a line: document 02 §4, "no blanks, unit shown only if not 0, group and user in octal without leading zeros".
use Rattle.std.specs.Prelude.{ℕ, cond, List, [], ◌∷◌, ◌++◌, eqb, ltb}
use Rattle.std.proofs.Math.Option.{Option, none, some}
use Rattle.numerals.specs.Digits.{digits}
use Rattle.command_grammar.specs.LineCharacters.{comma, period, slash, colon, less, opening, closing}
use Rattle.command_grammar.specs.Parsed.{Device, FileName, Uic, Switch, Specification, Parsed}

-- "in octal without leading zeros": as many digits as the number has, one for 0; of numbers that keep their bounds, "at most 377 octal", so that three are enough
unfoldable pub octal_digits : ℕ → List ℕ
octal_digits number = cond (ltb number 0o10) (digits 8 1 number) (cond (ltb number 0o100) (digits 8 2 number) (digits 8 3 number))

-- "unit shown only if not 0"
unfoldable pub written_unit : ℕ → List ℕ
written_unit unit = cond (eqb unit 0) [] (octal_digits unit)

unfoldable pub written_device : Option Device → List ℕ
written_device none = []
written_device (some d) = d.letters ++ (written_unit d.unit ++ (colon ∷ []))

abbrev pub written_extension : Option (List ℕ) → List ℕ
written_extension none = []
written_extension (some e) = period ∷ e

unfoldable pub written_file : Option FileName → List ℕ
written_file none = []
written_file (some f) = f.name ++ written_extension f.extension

-- "group and user in octal"
unfoldable pub written_uic : Option Uic → List ℕ
written_uic none = []
written_uic (some u) = opening ∷ (octal_digits u.group ++ (comma ∷ (octal_digits u.user ++ (closing ∷ []))))

unfoldable pub written_values : List (List ℕ) → List ℕ
written_values [] = []
written_values (v ∷ vs) = colon ∷ (v ++ written_values vs)

unfoldable pub written_switches : List Switch → List ℕ
written_switches [] = []
written_switches (w ∷ ws) = (slash ∷ (w.name ++ written_values w.values)) ++ written_switches ws

-- the parts in the order of the grammar; "no blanks"
unfoldable pub written_specification : Specification → List ℕ
written_specification v = written_device v.device ++ (written_file v.file ++ (written_uic v.uic ++ written_switches v.switches))

-- a comma between one specification and the next, empty or not
unfoldable pub written_side : List Specification → List ℕ
written_side [] = []
written_side (v ∷ []) = written_specification v
written_side (v ∷ (w ∷ vs)) = written_specification v ++ (comma ∷ written_side (w ∷ vs))

abbrev pub written_input : Option (List Specification) → List ℕ
written_input none = []
written_input (some side) = less ∷ written_side side

-- "write the line": the output side, and `<` and the input side where there is one
unfoldable pub written : Parsed → List ℕ
written said = written_side said.output ++ written_input said.input
