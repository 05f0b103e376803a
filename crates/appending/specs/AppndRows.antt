-- Means: the rows of tests of APPND; `code_iff` (promises) ties them to the propositions of the paper.
use Rattle.std.specs.Prelude.{ℕ, not, List, [], ◌∷◌, ◌++◌, eqb}
use Rattle.answers.specs.Refusals.{Row, row}
use Rattle.answers.specs.Missing.{missing}
use Rattle.pack.specs.declared.Entry.{Entry}
use Rattle.pack.specs.declared.Key.{Key}
use Rattle.pack.specs.KeyTest.{same_key}
use Rattle.consistency.specs.ConsistentTest.{consistent}
use Rattle.asking.specs.declared.Right.TheVariants.{Delete, Write}
use Rattle.asking.specs.KeysTest.{legal_key, found}
use Rattle.asking.specs.Asked.{file_of}
use Rattle.asking.specs.RightsTest.{may}
use Rattle.asking.specs.OpensTest.{is_open}

-- "15: a name or extension is not legal" of both before "41: .. APPND of a file to itself": one name, extension and UIC, where UIC 0 has given place
-- to the caller's
unfoldable pub name_rows : Key → Key → List Row
name_rows first second = row (not (legal_key first)) 0o15 ∷ (row (not (legal_key second)) 0o15 ∷ (row (same_key first second) 0o41 ∷ []))

-- for the first file and for the second: "6: right lacking" ("APPND needs write on the first, delete on the second"),
-- "43: .. APPND, .. of a contiguous one" ("both linked"), "14: .. APPND: a file is open"
unfoldable pub permit_rows : ℕ → Entry → Entry → List Row
permit_rows caller x y =
    row (not (may Write caller x.uic x.protect)) 0o6
    ∷ (row (not (may Delete caller y.uic y.protect)) 0o6
    ∷ (row (eqb x.kind 1) 0o43 ∷ (row (eqb y.kind 1) 0o43 ∷ (row (is_open x) 0o14 ∷ (row (is_open y) 0o14 ∷ [])))))

-- all names before 41, 41 before existence; then, for the first file and for the second: "2: .. absent", and what forbids to join them
unfoldable pub appnd_rows : List ℕ → Key → Key → ℕ → List Row
appnd_rows img first second caller =
    row (not (consistent img)) 0o40
    ∷ (name_rows first second
    ++ (row (missing (found img first)) 0o2
    ∷ (row (missing (found img second)) 0o2 ∷ permit_rows caller (file_of img first) (file_of img second))))
