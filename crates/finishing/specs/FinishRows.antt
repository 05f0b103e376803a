-- Means: the row of tests of Finish; `code_iff` (promises) ties it to the proposition of the paper.
use Rattle.std.specs.Prelude.{ℕ, not, List, [], ◌∷◌}
use Rattle.answers.specs.Refusals.{Row, row}
use Rattle.consistency.specs.ConsistentTest.{consistent}

-- "Refusals: 40 only."
unfoldable pub finish_rows : List ℕ → List Row
finish_rows img = row (not (consistent img)) 0o40 ∷ []
