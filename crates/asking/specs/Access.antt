-- Means: the rows of tests of a request on a file's blocks, once the file is found; `code_iff` (promises) ties them to the propositions of the paper.
use Rattle.std.specs.Prelude.{ℕ, Bool, not, List, [], ◌∷◌, eqb}
use Rattle.answers.specs.Refusals.{Row, row}
use Rattle.pack.specs.declared.Entry.{Entry}
use Rattle.asking.specs.declared.Right.{Right}
use Rattle.asking.specs.RightsTest.{may}

-- "6: right lacking", "43: .. BLOCK of a linked file; .. linked read or add of a contiguous one", "45: not open as the request needs".
-- `other` is the kind that the request is not for; `closed` says that the file is not open as it needs.
unfoldable pub access_rows : Entry → ℕ → Right → ℕ → Bool → List Row
access_rows x caller right other closed =
    row (not (may right caller x.uic x.protect)) 0o6 ∷ (row (eqb x.kind other) 0o43 ∷ (row closed 0o45 ∷ []))
