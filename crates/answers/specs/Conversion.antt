-- A conversion, either way: characters to a number, and a number to characters in a lent buffer.
use Rattle.std.specs.Prelude.{ℕ, not, List, [], ◌∷◌, eqb, length}
use Rattle.std.proofs.Math.Option.{Option}
use Rattle.answers.specs.declared.Answer.{Answer}
use Rattle.answers.specs.Refusals.{Row, row, first_of, answered, lent}
use Rattle.answers.specs.Missing.{missing, or_else}

-- "Character buffers are of exactly 3, 5 or 6 bytes, else 41." "60: a conversion's input is not of its set, or too large."
-- The table has 41 before 60; "Code 40 is not for Format, conversions or command lines." `size` is the number of bytes asked, `result` what the input converts to, if it does.
unfoldable pub conversion_rows : {A : Type 0} → ℕ → List ℕ → Option A → List Row
conversion_rows size bytes result = row (not (eqb (length bytes) size)) 0o41 ∷ row (missing result) 0o60 ∷ []

-- "Success returns 0; .. RADPK, D2BIN and O2BIN their number."
unfoldable pub to_number : ℕ → (List ℕ → Option ℕ) → List ℕ → Answer
to_number size number characters = answered (conversion_rows size characters (number characters)) (or_else 0 (number characters))

-- the code, and what the lent buffer then holds
pub record Converted : Type 0 where
  pub code : ℕ
  pub buffer : List ℕ

unfoldable pub to_characters : ℕ → (ℕ → Option (List ℕ)) → ℕ → List ℕ → Converted
to_characters size characters number buffer =
    record {
      code = first_of (conversion_rows size buffer (characters number));
      buffer = lent (conversion_rows size buffer (characters number)) buffer (or_else buffer (characters number));
    }
