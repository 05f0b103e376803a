-- Means: the rows of tests that requests on a file share, and what the stages of a request answer.
use Rattle.std.specs.Prelude.{ℕ, Bool, not, List, [], ◌∷◌, Result, Ok, Err}
use Rattle.answers.specs.Refusals.{Row, row, first_of, on_success, code_of}
use Rattle.pack.specs.declared.Key.{Key}
use Rattle.pack.specs.Geometry.{geometry_of}
use Rattle.pack.specs.declared.Entry.{Entry}
use Rattle.pack.specs.declared.Geometry.{Geometry}
use Rattle.answers.specs.declared.Refusal.{Refusal}
use Rattle.answers.specs.Missing.{missing}
use Rattle.asking.specs.declared.Found.{Found}
use Rattle.consistency.specs.ConsistentTest.{consistent}
use Rattle.asking.specs.KeysTest.{legal_key, found}
use Rattle.asking.specs.Asked.{entry_no, file_of}

-- what a stage answers that looks for a file: the pack's measures, the number of its entry and the entry; or the code of a refusal
pub data Asked : Type 0 where
  File : Geometry → ℕ → Entry → Asked
  Refused : ℕ → Asked

-- "40: image not consistent", "15: a name or extension is not legal", "41: argument: ..", "2: .. absent", in the order of the table.
-- `wrong` says that an argument of the request is wrong; a request without such an argument says false.
unfoldable pub file_rows : List ℕ → Key → Bool → List Row
file_rows img key wrong =
    row (not (consistent img)) 0o40 ∷ (row (not (legal_key key)) 0o15 ∷ (row wrong 0o41 ∷ (row (missing (found img key)) 0o2 ∷ [])))

-- the file, or the code of the first row that refuses
unfoldable pub stage_of : List Row → List ℕ → Key → Asked
stage_of rows img key = on_success (first_of rows) (File (geometry_of img) (entry_no img key) (file_of img key)) (Refused (first_of rows))

-- the first stage's answer
abbrev pub asked_of : List ℕ → Key → Bool → Asked
asked_of img key wrong = stage_of (file_rows img key wrong) img key

-- the stage's answer as the code gives it
abbrev pub asked_in : Result Found Refusal → Asked
asked_in (Ok found) = File found.geometry found.number found.entry
asked_in (Err refusal) = Refused (code_of refusal)
