-- Means: the rows of tests of reading a line; `code_iff` (promises) ties them to the propositions of the paper.
use Rattle.std.specs.Prelude.{ℕ, Bool, ◌||◌, List, eqb, ltb, length}
use Rattle.answers.specs.Refusals.{Row}
use Rattle.pack.specs.declared.Key.{Key}
use Rattle.stream.specs.BytesReadingRows.{reading_rows}

-- "41 also for a maximum count of 0"; a mode that is neither normal nor special
abbrev pub wrong_reading : ℕ → List ℕ → Bool
wrong_reading mode buffer = eqb (length buffer) 0 || ltb 1 mode

-- "Refusals: those of linked read ..; 44 for a position beyond the payloads."
unfoldable pub line_read_rows : List ℕ → Key → ℕ → ℕ → ℕ → List ℕ → List Row
line_read_rows img key caller mode position buffer = reading_rows img key caller (wrong_reading mode buffer) position
