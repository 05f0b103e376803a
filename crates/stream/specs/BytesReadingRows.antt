-- Means: the rows of tests of a request that reads bytes; `code_iff` (promises) ties them to the propositions of the paper.
use Rattle.std.specs.Prelude.{ℕ, ◌*◌, Bool, List, [], ◌∷◌, ◌++◌, eqb, ltb}
use Rattle.answers.specs.Refusals.{Row, row}
use Rattle.pack.specs.declared.Key.{Key}
use Rattle.pack.specs.Geometry.{geometry_of, payload_bytes}
use Rattle.asking.specs.declared.Right.TheVariants.{Read}
use Rattle.asking.specs.AskedStage.{file_rows}
use Rattle.asking.specs.Asked.{file_of}
use Rattle.asking.specs.Access.{access_rows}

-- "Refusals: those of linked read ..; 44 for a position beyond the payloads." `wrong` says that an argument is wrong.
abbrev pub reading_rows : List ℕ → Key → ℕ → Bool → ℕ → List Row
reading_rows img key caller wrong position =
    file_rows img key wrong
    ++ (access_rows (file_of img key) caller Read 1 (eqb (file_of img key).readers 0)
    ++ (row (ltb ((file_of img key).length * payload_bytes (geometry_of img)) position) 0o44 ∷ []))
