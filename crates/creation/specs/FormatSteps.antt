-- Means: what the step of Format writes that comes last.
use Rattle.std.specs.Prelude.{ℕ, ◌+◌, List, ◌++◌, length, drop}
use Rattle.creation.specs.Formattable.{uics_in}
use Rattle.words.specs.Word.{bytes_of}

-- words 0 to 3 and the UICs, and nothing behind them
unfoldable pub headed : List ℕ → ℕ → ℕ → ℕ → List ℕ → List ℕ
headed image form blocks contents uics =
    (bytes_of form ++ (bytes_of blocks ++ (bytes_of contents ++ bytes_of (uics_in uics)))) ++ (uics ++ drop (8 + length uics) image)
