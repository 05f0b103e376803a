-- Means: the rows of tests of reading a formatted binary line; `code_iff` (promises) ties them to the propositions of the paper.
use Rattle.std.specs.Prelude.{ℕ, Bool, not, ◌&&◌, ◌||◌, List, eqb, ltb}
use Rattle.answers.specs.Refusals.{Row}
use Rattle.pack.specs.declared.Key.{Key}
use Rattle.stream.specs.BytesReadingRows.{reading_rows}
use Rattle.lines.specs.LineReadingRows.{wrong_reading}

-- "41 also for .. a length to come over 511, a sum over 255, or one not 0 with nothing to come"
abbrev pub wrong_given : ℕ → ℕ → Bool
wrong_given to_come sum = ltb 511 to_come || (ltb 255 sum || (eqb to_come 0 && not (eqb sum 0)))

-- one of those, or as for a line of text: a maximum count of 0, or a mode that is neither normal nor special
abbrev pub wrong_asking : ℕ → ℕ → ℕ → List ℕ → Bool
wrong_asking mode to_come sum buffer = wrong_reading mode buffer || wrong_given to_come sum

-- "Refusals: as §1": those of linked read; 44 for a position beyond the payloads
unfoldable pub binary_read_rows : List ℕ → Key → ℕ → ℕ → ℕ → ℕ → ℕ → List ℕ → List Row
binary_read_rows img key caller mode position to_come sum buffer = reading_rows img key caller (wrong_asking mode to_come sum buffer) position
