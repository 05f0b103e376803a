-- Means: the rows of tests of BLOCK; `code_iff` (promises) ties them to the propositions of the paper.
use Rattle.std.specs.Prelude.{ℕ, Bool, not, ◌||◌, List, [], ◌∷◌, ◌++◌, eqb, leb, ltb}
use Rattle.answers.specs.Refusals.{Row, row}
use Rattle.pack.specs.declared.Entry.{Entry}
use Rattle.pack.specs.declared.Key.{Key}
use Rattle.asking.specs.declared.Right.TheVariants.{Read, Write}
use Rattle.asking.specs.AskedStage.{file_rows}
use Rattle.asking.specs.Asked.{file_of}
use Rattle.asking.specs.Access.{access_rows}
use Rattle.bodies.specs.BufferSizes.{wrong_block}

-- "Input needs read, and besides a reader or writer 1"
abbrev pub open_for_input : Entry → Bool
open_for_input x = ltb 0 x.readers || eqb x.writer 1

-- BLOCK is of no linked file, whose kind is 2; behind its access, "44: no such block in the file"
unfoldable pub block_in_rows : List ℕ → Key → ℕ → ℕ → List ℕ → List Row
block_in_rows img key caller place buffer =
    file_rows img key (wrong_block img buffer)
    ++ (access_rows (file_of img key) caller Read 2 (not (open_for_input (file_of img key))) ++ (row (leb (file_of img key).length place) 0o44 ∷ []))

-- "output needs write and writer 1"
unfoldable pub block_out_rows : List ℕ → Key → ℕ → ℕ → List ℕ → List Row
block_out_rows img key caller place buffer =
    file_rows img key (wrong_block img buffer)
    ++ (access_rows (file_of img key) caller Write 2 (not (eqb (file_of img key).writer 1)) ++ (row (leb (file_of img key).length place) 0o44 ∷ []))
