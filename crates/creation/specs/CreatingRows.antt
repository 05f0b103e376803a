-- Means: the rows of tests that speak against a new file; `code_iff` (promises) ties them to the propositions of the paper.
use Rattle.std.specs.Prelude.{ℕ, Bool, not, List, [], ◌∷◌, eqb, ltb}
use Rattle.answers.specs.Refusals.{Row, row}
use Rattle.answers.specs.Missing.{missing}
use Rattle.pack.specs.declared.Key.{Key}
use Rattle.pack.specs.HeaderTest.{listed}
use Rattle.consistency.specs.ConsistentTest.{consistent}
use Rattle.asking.specs.KeysTest.{legal_key, found}
use Rattle.creation.specs.CreatingLowest.{lowest_empty}

-- "41: argument: .. protect above 255" and what else is wrong; "13: creating: UIC not in the list", "2: creating ..: exists",
-- "6: .. creating under another's UIC", "12: creating: no empty entry"
unfoldable pub creating_rows : List ℕ → Key → ℕ → ℕ → Bool → List Row
creating_rows img key caller protect wrong =
    row (not (consistent img)) 0o40
    ∷ (row (not (legal_key key)) 0o15
    ∷ (row wrong 0o41
    ∷ (row (ltb 255 protect) 0o41
    ∷ (row (not (listed img key.uic)) 0o13
    ∷ (row (not (missing (found img key))) 0o2 ∷ (row (not (eqb key.uic caller)) 0o6 ∷ (row (missing (lowest_empty img)) 0o12 ∷ [])))))))
