-- Means: the rows of tests of the question whose a block is; `code_iff` (promises) ties them to the propositions of the paper.
use Rattle.std.specs.Prelude.{ℕ, not, List, [], ◌∷◌, leb}
use Rattle.answers.specs.Refusals.{Row, row}
use Rattle.pack.specs.Geometry.{geometry_of}
use Rattle.consistency.specs.ConsistentTest.{consistent}

-- It refuses with 40, and with 44 where the pack has no such block (docs/DECISIONS.md 22).
unfoldable pub owner_rows : List ℕ → ℕ → List Row
owner_rows img b = row (not (consistent img)) 0o40 ∷ (row (leb (geometry_of img).blocks b) 0o44 ∷ [])
