-- Means: the rows of tests of OPENI, OPENU and OPENE (`code_iff`, promises, ties them to the paper), and the word that each writes (`open_entry`, `nothing_else`).
use Rattle.std.specs.Prelude.{ℕ, ◌+◌, Bool, true, false, not, ◌&&◌, List, [], ◌∷◌, ◌++◌, eqb, ltb}
use Rattle.answers.specs.Refusals.{Row, row}
use Rattle.pack.specs.declared.Entry.{Entry}
use Rattle.pack.specs.declared.Key.{Key}
use Rattle.asking.specs.declared.Right.{Right}
use Rattle.asking.specs.declared.Right.TheVariants.{Read, Write}
use Rattle.asking.specs.AskedStage.{file_rows}
use Rattle.asking.specs.Asked.{file_of}
use Rattle.asking.specs.RightsTest.{may}
use Rattle.asking.specs.OpensTest.{is_full}
use Rattle.opening.specs.declared.Opening.{Opening}
use Rattle.opening.specs.declared.Opening.TheVariants.{Input, Update, Extension}

-- "OPENI needs read .. OPENU needs write .. OPENE needs write"
abbrev pub right_for : Opening → Right
right_for Input = Read
right_for Update = Write
right_for Extension = Write

abbrev pub is_update : Opening → Bool
is_update Input = false
is_update Update = true
is_update Extension = false

abbrev pub is_extension : Opening → Bool
is_extension Input = false
is_extension Update = false
is_extension Extension = true

abbrev pub is_writing : Opening → Bool
is_writing Input = false
is_writing Update = true
is_writing Extension = true

-- can the file be open in this mode too? "5: OPENE of a contiguous file", "43: OPENU .. of a linked file", "4: OPENE, OPENU: there is a writer",
-- "3: 62 opens already"
abbrev pub mode_rows : Opening → Entry → List Row
mode_rows mode x =
    row (is_extension mode && eqb x.kind 1) 0o5
    ∷ (row (is_update mode && eqb x.kind 2) 0o43 ∷ (row (is_writing mode && ltb 0 x.writer) 0o4 ∷ (row (is_full x) 0o3 ∷ [])))

-- "2: .. absent. OPENI, OPENE, OPENU also: writer is 2", "6: right lacking", and those
abbrev pub opening_rows : Opening → ℕ → Entry → List Row
opening_rows mode caller x =
    row (eqb x.writer 2) 0o2 ∷ (row (not (may (right_for mode) caller x.uic x.protect)) 0o6 ∷ mode_rows mode x)

unfoldable pub open_rows : Opening → List ℕ → Key → ℕ → List Row
open_rows mode img key caller = file_rows img key false ++ opening_rows mode caller (file_of img key)

-- the word of the entry that is written for it, and what is written there
abbrev pub open_word : Opening → ℕ
open_word Input = 10
open_word Update = 9
open_word Extension = 9

abbrev pub open_value : Opening → Entry → ℕ
open_value Input x = x.readers + 1
open_value Update x = 1
open_value Extension x = 3
