-- Lines that read back the same: which they are, and what it is that they do.
use Rattle.std.specs.Prelude.{ℕ, ◌≤◌, ◌<◌, ◌≡◌, true, false, cond, List, [], ◌∷◌, ◌++◌, eqb, length, drop}
use Rattle.lines.specs.declared.LineMode.{LineMode}
use Rattle.lines.specs.TextBytes.{is_discarded, is_terminator}
use Rattle.lines.specs.LineRead.{line_found}

-- "Lines of 7-bit characters without NUL or RUBOUT, each with its one terminator at its end"
pub data PlainText : List ℕ → Type 0 where
  nothing : PlainText []
  character : {x : ℕ} {text : List ℕ} → x < 128 → is_discarded x ≡ false → is_terminator x ≡ false → PlainText text → PlainText (x ∷ text)

pub data TextLine : List ℕ → Type 0 where
  terminated : {text : List ℕ} (terminator : ℕ) → PlainText text → is_terminator terminator ≡ true → TextLine (text ++ (terminator ∷ []))

pub data TextLines : List (List ℕ) → Type 0 where
  no_line : TextLines []
  one_more : {line : List ℕ} {lines : List (List ℕ)} → TextLine line → TextLines lines → TextLines (line ∷ lines)

-- "one NUL after FORM FEED": it is passed with the next line
abbrev pub nuls_after : ℕ → ℕ
nuls_after terminator = cond (eqb terminator 12) 1 0

-- "must read back the same when the count allows them": from here each line is read, one after another, in any buffer that holds it,
-- without a bit set; behind the last there is nothing to read before the end
pub data ReadBack (mode : LineMode) : List ℕ → List (List ℕ) → Type 0 where
  at_end : {s : List ℕ} → ((most : ℕ) → 0 < most → line_found mode most s ≡ record { laid = []; count = 0; status = 64; passed = length s })
      → ReadBack mode s []
  one_read : {s line : List ℕ} {lines : List (List ℕ)} (passed : ℕ)
      → ((most : ℕ) → length line ≤ most → line_found mode most s ≡ record { laid = line; count = length line; status = 0; passed = passed })
      → ReadBack mode (drop passed s) lines → ReadBack mode s (line ∷ lines)
