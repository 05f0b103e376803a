-- Means: the rows of tests of CLOSE (`code_iff`, promises, ties them to the paper), and the word that it writes (`close_entry`, `nothing_else`).
use Rattle.std.specs.Prelude.{ℕ, ◌-◌, Bool, not, cond, ◌||◌, List, [], ◌∷◌, ◌++◌, eqb, ltb}
use Rattle.answers.specs.Refusals.{Row, row}
use Rattle.pack.specs.declared.Entry.{Entry}
use Rattle.pack.specs.declared.Key.{Key}
use Rattle.asking.specs.AskedStage.{file_rows}
use Rattle.asking.specs.Asked.{file_of}

-- "41: .. mode not 1 to 4"
abbrev pub wrong_mode : ℕ → Bool
wrong_mode mode = eqb mode 0 || ltb 4 mode

-- "CLOSE with mode 1, 2, 3, or 4 (OPENI)": a writer of that mode, or a reader
unfoldable pub is_open_as : ℕ → Entry → Bool
is_open_as mode x = cond (eqb mode 4) (ltb 0 x.readers) (eqb x.writer mode)

-- "45: .. CLOSE of a mode not open"; "no right needed"
unfoldable pub close_rows : List ℕ → Key → ℕ → List Row
close_rows img key mode = file_rows img key (wrong_mode mode) ++ (row (not (is_open_as mode (file_of img key))) 0o45 ∷ [])

-- the word of the entry that is written for it, and what is written there
abbrev pub close_word : ℕ → ℕ
close_word mode = cond (eqb mode 4) 10 9

abbrev pub close_value : ℕ → Entry → ℕ
close_value mode x = cond (eqb mode 4) (x.readers - 1) 0
