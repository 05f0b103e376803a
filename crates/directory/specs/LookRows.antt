-- Means: the rows of tests of LOOK; `code_iff` (promises) ties them to the propositions of the paper.
use Rattle.std.specs.Prelude.{ℕ, false, List}
use Rattle.answers.specs.Refusals.{Row}
use Rattle.pack.specs.declared.Key.{Key}
use Rattle.asking.specs.AskedStage.{file_rows}

-- "no right needed": 40, 15 and 2 alone, since LOOK has no argument that could be wrong
unfoldable pub look_rows : List ℕ → Key → List Row
look_rows img key = file_rows img key false
