-- The bytes of a text in a file: which of them a reader keeps, and which end a line.
use Rattle.std.specs.Prelude.{ℕ, suc, ◌%◌, Bool, false, cond, ◌||◌, List, [], ◌∷◌, eqb}

-- "It clears bit 7 of each byte"
abbrev pub seven_bits : ℕ → ℕ
seven_bits x = x % 128

-- "NUL and RUBOUT": of a byte whose bit 7 is cleared; the test itself clears nothing
abbrev pub is_discarded : ℕ → Bool
is_discarded x = eqb x 0 || eqb x 127

-- "LINE FEED, VERTICAL TAB or FORM FEED": a reader asks it of a byte whose bit 7 is cleared, a writer of a character as it is given
abbrev pub is_terminator : ℕ → Bool
is_terminator x = eqb x 10 || (eqb x 11 || eqb x 12)

-- "It clears bit 7 of each byte, discards NUL and RUBOUT": what a reader keeps
unfoldable pub kept_of : List ℕ → List ℕ
kept_of [] = []
kept_of (x ∷ s) = cond (is_discarded (seven_bits x)) (kept_of s) (seven_bits x ∷ kept_of s)

-- how many bytes there are through the first that passes a test, or in all where none does; and whether one does
unfoldable pub through : (ℕ → Bool) → List ℕ → ℕ
through test [] = 0
through test (x ∷ s) = suc (cond (test x) 0 (through test s))

unfoldable pub any_of : (ℕ → Bool) → List ℕ → Bool
any_of test [] = false
any_of test (x ∷ s) = test x || any_of test s
