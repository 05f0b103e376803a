-- Means: the rows of tests that DELET and RENAM share, once the file is found; `code_iff` (promises) ties them to the propositions of the paper.
use Rattle.std.specs.Prelude.{ℕ, not, List, [], ◌∷◌}
use Rattle.answers.specs.Refusals.{Row, row}
use Rattle.pack.specs.declared.Entry.{Entry}
use Rattle.asking.specs.declared.Right.{Right}
use Rattle.asking.specs.RightsTest.{may}
use Rattle.asking.specs.OpensTest.{is_open}

-- "6: right lacking", "14: DELET, RENAM ..: a file is open"
abbrev pub permit_rows : Right → ℕ → Entry → List Row
permit_rows right caller x = row (not (may right caller x.uic x.protect)) 0o6 ∷ (row (is_open x) 0o14 ∷ [])
