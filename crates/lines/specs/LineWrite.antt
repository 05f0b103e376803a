-- What writing a line makes of the characters given.
use Rattle.std.specs.Prelude.{ℕ, ◌-◌, not, cond, List, [], ◌∷◌, ◌++◌, eqb, length, take, get_or}
use Rattle.lines.specs.declared.LineMode.{LineMode}
use Rattle.lines.specs.declared.LineMode.TheVariants.{Normal, Special}
use Rattle.lines.specs.TextBytes.{is_terminator, through}
use Rattle.lines.specs.LineRead.{status_bit}

-- "It puts one RUBOUT after TAB and one NUL after FORM FEED.": what is put for a character
abbrev pub put_of : ℕ → List ℕ
put_of x = cond (eqb x 9) (9 ∷ (127 ∷ [])) (cond (eqb x 12) (12 ∷ (0 ∷ [])) (x ∷ []))

unfoldable pub put_all : List ℕ → List ℕ
put_all [] = []
put_all (x ∷ text) = put_of x ++ put_all text

-- "Normal mode writes all it is given, special stops after the first terminator"
unfoldable pub taken_of : LineMode → List ℕ → List ℕ
taken_of Normal text = text
taken_of Special text = take (through is_terminator text) text

-- "both return the count taken, and bit 0 says that its last character was none, or that it is 0": 0 is no terminator
abbrev pub written_status : List ℕ → ℕ
written_status taken = status_bit (not (is_terminator (get_or taken (length taken - 1) 0))) 1
