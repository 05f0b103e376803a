-- Means: the rows of tests of KEEP; `code_iff` (promises) ties them to the propositions of the paper.
use Rattle.std.specs.Prelude.{ℕ, false, not, List, [], ◌∷◌, ◌++◌, eqb}
use Rattle.answers.specs.Refusals.{Row, row}
use Rattle.pack.specs.declared.Key.{Key}
use Rattle.asking.specs.AskedStage.{file_rows}
use Rattle.asking.specs.Asked.{file_of}

-- "6: right lacking"; "KEEP: owner only"
unfoldable pub keep_rows : List ℕ → Key → ℕ → List Row
keep_rows img key caller = file_rows img key false ++ (row (not (eqb caller (file_of img key).uic)) 0o6 ∷ [])
