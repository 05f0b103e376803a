-- Means: the rows of tests of ALLOC; `code_iff` (promises) ties them to the propositions of the paper.
use Rattle.std.specs.Prelude.{ℕ, List, [], ◌∷◌, ◌++◌, eqb}
use Rattle.answers.specs.Refusals.{Row, row}
use Rattle.answers.specs.Missing.{missing}
use Rattle.pack.specs.declared.Key.{Key}
use Rattle.room.specs.RoomTest.{highest_run}
use Rattle.creation.specs.CreatingRows.{creating_rows}
use Rattle.creation.specs.Rounding.{length_for}

-- "41: argument: N is 0"; "42: .. no free run long enough", after 12: a reading easily got wrong is "Giving 42 where the directory is full too and 12 is due."
unfoldable pub alloc_rows : List ℕ → Key → ℕ → ℕ → ℕ → List Row
alloc_rows img key caller protect segments =
    creating_rows img key caller protect (eqb segments 0) ++ (row (missing (highest_run img (length_for img segments))) 0o42 ∷ [])
