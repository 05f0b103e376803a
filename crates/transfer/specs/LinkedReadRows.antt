-- Means: the rows of tests of linked read; `code_iff` (promises) ties them to the propositions of the paper.
use Rattle.std.specs.Prelude.{ℕ, Bool, List, [], ◌∷◌, ◌++◌, eqb, leb}
use Rattle.answers.specs.Refusals.{Row, row}
use Rattle.pack.specs.declared.Key.{Key}
use Rattle.asking.specs.declared.Right.TheVariants.{Read}
use Rattle.asking.specs.AskedStage.{file_rows}
use Rattle.asking.specs.Asked.{file_of}
use Rattle.asking.specs.Access.{access_rows}

-- "Linked read: buffer of 510, read right, a reader.", of no contiguous file, whose kind is 1; behind its access, "44: no such block in the file".
-- `wrong` says that an argument is wrong.
unfoldable pub linked_read_rows : List ℕ → Key → ℕ → ℕ → Bool → List Row
linked_read_rows img key caller place wrong =
    file_rows img key wrong
    ++ (access_rows (file_of img key) caller Read 1 (eqb (file_of img key).readers 0) ++ (row (leb (file_of img key).length place) 0o44 ∷ []))
