-- Means: the test of Format; `format_iff` ties it to `Formattable`.
use Rattle.std.specs.Prelude.{ℕ, ◌%◌, Bool, not, ◌&&◌, List, [], ◌∷◌, eqb, length}
use Rattle.answers.specs.Refusals.{Row, row}
use Rattle.pack.specs.HeaderTest.{measured, distinct}
use Rattle.creation.specs.Formattable.{uics_in}

-- "41 unless the image is 512n bytes and n, c, UICs are as above": the same measures as block 0's, whole words, distinct and not 0
unfoldable pub format_test : ℕ → ℕ → ℕ → ℕ → List ℕ → Bool
format_test long form blocks contents uics =
    eqb (length uics % 2) 0 && (measured long form blocks contents (uics_in uics) && distinct uics 0 (uics_in uics))

-- "41 unless .."
unfoldable pub format_rows : List ℕ → ℕ → ℕ → ℕ → List ℕ → List Row
format_rows image form blocks contents uics = row (not (format_test (length image) form blocks contents uics)) 0o41 ∷ []
