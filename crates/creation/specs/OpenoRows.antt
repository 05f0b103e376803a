-- Means: the rows of tests of OPENO; `code_iff` (promises) ties them to the propositions of the paper.
use Rattle.std.specs.Prelude.{ℕ, false, List}
use Rattle.answers.specs.Refusals.{Row}
use Rattle.pack.specs.declared.Key.{Key}
use Rattle.creation.specs.CreatingRows.{creating_rows}

-- what speaks against any new file, and no more
abbrev pub openo_rows : List ℕ → Key → ℕ → ℕ → List Row
openo_rows img key caller protect = creating_rows img key caller protect false
