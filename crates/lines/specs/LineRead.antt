-- What reading a line makes of the bytes that stand from the position on in the file's payloads, joined.
use Rattle.std.specs.Prelude.{ℕ, zero, suc, ◌+◌, ◌-◌, Bool, not, cond, ◌&&◌, ◌||◌, List, [], ◌∷◌, ◌++◌, eqb, leb, ltb, length, take, get_or}
use Rattle.lines.specs.declared.LineMode.{LineMode}
use Rattle.lines.specs.declared.LineMode.TheVariants.{Normal, Special}
use Rattle.lines.specs.TextBytes.{seven_bits, is_discarded, is_terminator, kept_of, through, any_of}

-- a byte ends a line when it does so with its bit 7 cleared
abbrev pub ends_line : ℕ → Bool
ends_line x = is_terminator (seven_bits x)

-- "ends after LINE FEED, VERTICAL TAB or FORM FEED": the bytes that the line passes, what is kept of them, and whether a terminator is among them
abbrev pub line_passed : List ℕ → ℕ
line_passed s = through ends_line s

abbrev pub kept_line : List ℕ → List ℕ
kept_line s = kept_of (take (line_passed s) s)

abbrev pub is_terminated : List ℕ → Bool
is_terminated s = any_of ends_line s

-- "If the maximum count, the lent buffer's length, comes first": there are more bytes in the line, or just so many and no terminator among them
abbrev pub is_over : ℕ → List ℕ → Bool
is_over most s = ltb most (length (kept_line s)) || (eqb (length (kept_line s)) most && not (is_terminated s))

-- how many bytes there are through so many that are kept
unfoldable pub passed_for : ℕ → List ℕ → ℕ
passed_for zero s = 0
passed_for (suc k) [] = 0
passed_for (suc k) (x ∷ s) = suc (cond (is_discarded (seven_bits x)) (passed_for (suc k) s) (passed_for k s))

-- "normal mode lays each surplus byte over the last one"
abbrev pub overlaid : ℕ → List ℕ → List ℕ
overlaid most line = cond (leb (length line) most) line (take (most - 1) line ++ (get_or line (length line - 1) 0 ∷ []))

-- "status bit 0 is set", "Bit 6 means the file ended before a terminator": as a number
abbrev pub status_bit : Bool → ℕ → ℕ
status_bit set weight = cond set weight 0

-- what is laid down in the buffer, the count, the status, and how many bytes are passed
pub record LineFound : Type 0 where
  pub laid : List ℕ
  pub count : ℕ
  pub status : ℕ
  pub passed : ℕ

-- a line that the buffer holds, in either mode
abbrev pub whole_line : List ℕ → LineFound
whole_line s = record { laid = kept_line s; count = length (kept_line s); status = status_bit (not (is_terminated s)) 64; passed = line_passed s }

-- "normal mode lays each surplus byte over the last one and counts it"; "normal mode may set both"
abbrev pub surplus_laid : ℕ → List ℕ → LineFound
surplus_laid most s =
    record { laid = overlaid most (kept_line s); count = length (kept_line s); status = 1 + status_bit (not (is_terminated s)) 64; passed = line_passed s }

-- "special mode stops and keeps the rest for the next read"
abbrev pub stopped : ℕ → List ℕ → LineFound
stopped most s = record { laid = take most (kept_line s); count = most; status = 1; passed = passed_for most s }

unfoldable pub line_found : LineMode → ℕ → List ℕ → LineFound
line_found Normal most s = cond (is_over most s) (surplus_laid most s) (whole_line s)
line_found Special most s = cond (is_over most s) (stopped most s) (whole_line s)
