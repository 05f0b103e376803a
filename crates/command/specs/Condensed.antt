-- The condensed line.
use Rattle.std.specs.Prelude.{ℕ, ◌<◌, Bool, cond, ◌||◌, List, [], ◌∷◌, ◌⊎◌, eqb, length}

-- "CSI1 drops blank, TAB, NUL and RUBOUT from the lent line"
abbrev pub is_dropped : ℕ → Bool
is_dropped x = eqb x 32 || (eqb x 9 || (eqb x 0 || eqb x 127))

unfoldable pub condensed : List ℕ → List ℕ
condensed [] = []
condensed (x ∷ line) = cond (is_dropped x) (condensed line) (x ∷ condensed line)

-- "raw line over 512 or condensed over 128"
abbrev pub raw_limit : ℕ
raw_limit = 512

abbrev pub line_limit : ℕ
line_limit = 128

abbrev pub TooLong : List ℕ → Type 0
TooLong line = (raw_limit < length line) ⊎ (line_limit < length (condensed line))
