-- Means: the rows of tests of RENAM; `code_iff` (promises) ties them to the propositions of the paper.
use Rattle.std.specs.Prelude.{ℕ, Bool, not, List, [], ◌∷◌, ◌++◌, ltb}
use Rattle.answers.specs.Refusals.{Row, row}
use Rattle.answers.specs.Missing.{missing}
use Rattle.pack.specs.declared.Key.{Key}
use Rattle.consistency.specs.ConsistentTest.{consistent}
use Rattle.asking.specs.declared.Right.TheVariants.{Write}
use Rattle.asking.specs.KeysTest.{legal_key, found}
use Rattle.asking.specs.Asked.{file_of}
use Rattle.directory.specs.PermitRows.{permit_rows}

-- "15: a name or extension is not legal", old or new; "41: argument: .." where `wrong` says that it is
abbrev pub name_rows : Key → Key → Bool → List Row
name_rows old new wrong = row (not (legal_key old)) 0o15 ∷ (row (not (legal_key new)) 0o15 ∷ (row wrong 0o41 ∷ []))

-- "2: .. new name in RENAM: exists. Else: absent", also "The same name again is refused with 2."
abbrev pub old_rows : List ℕ → Key → Key → Bool → List Row
old_rows img old new wrong =
    row (not (consistent img)) 0o40
    ∷ (name_rows old new wrong ++ (row (missing (found img old)) 0o2 ∷ (row (not (missing (found img new))) 0o2 ∷ [])))

-- "41: .. protect above 255"; "RENAM needs write"
unfoldable pub renam_rows : List ℕ → Key → Key → ℕ → ℕ → List Row
renam_rows img old new protect caller = old_rows img old new (ltb 255 protect) ++ permit_rows Write caller (file_of img old)
