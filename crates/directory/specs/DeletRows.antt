-- Means: the rows of tests of DELET; `code_iff` (promises) ties them to the propositions of the paper.
use Rattle.std.specs.Prelude.{ℕ, false, List, ◌++◌}
use Rattle.answers.specs.Refusals.{Row}
use Rattle.pack.specs.declared.Key.{Key}
use Rattle.asking.specs.declared.Right.TheVariants.{Delete}
use Rattle.asking.specs.AskedStage.{file_rows}
use Rattle.asking.specs.Asked.{file_of}
use Rattle.directory.specs.PermitRows.{permit_rows}

unfoldable pub delet_rows : List ℕ → Key → ℕ → List Row
delet_rows img key caller = file_rows img key false ++ permit_rows Delete caller (file_of img key)
