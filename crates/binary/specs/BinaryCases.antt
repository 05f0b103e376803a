-- The five answers of reading a formatted binary line, each with when it is given.
use Rattle.std.specs.Prelude.{ℕ, ◌+◌, ◌≤◌, ◌<◌, ◌≡◌, List, length, take, drop}
use Rattle.lines.specs.declared.LineMode.{LineMode}
use Rattle.lines.specs.declared.LineMode.TheVariants.{Normal, Special}
use Rattle.binary.specs.BinaryLine.{sum_of}
use Rattle.binary.specs.BinaryRead.{
  BinaryFound,
  nuls_before,
  line_from,
  cut,
  wrong,
  counts,
  header_of,
  stopped,
  verified,
  ended,
  cut_found,
  wrong_found,
  behind,
}

-- the five, by name
pub data Kind : Type 0 where
  HeaderCut HeaderWrong BufferFull LineRead DataEnded : Kind

-- a reading goes on to the end of the data: normal always, special where the buffer holds them or the bytes end before it is full
pub data GoesOn (most to_come : ℕ) (s : List ℕ) : LineMode → Type 0 where
  surplus_over : GoesOn most to_come s Normal
  held : to_come ≤ most → GoesOn most to_come s Special
  ends_before : length s < most → GoesOn most to_come s Special

-- the data from their first on, or from where the last part stopped: bit 0, "special keeps the rest"; the line read and verified; bit 6, "the data ending first"
pub data DataCase (most to_come sum : ℕ) (s : List ℕ) : LineMode → Kind → BinaryFound → Type 0 where
  buffer_full : most < to_come → most ≤ length s → DataCase most to_come sum s Special BufferFull (stopped most to_come sum s)
  line_read : {mode : LineMode} → GoesOn most to_come s mode → to_come < length s → DataCase most to_come sum s mode LineRead (verified most to_come sum s)
  data_ended : {mode : LineMode} → GoesOn most to_come s mode → length s ≤ to_come → DataCase most to_come sum s mode DataEnded (ended most to_come s)

-- a new line, with 0 passed in: bit 6 inside the header; bit 2; or the data behind the header. A line that goes on has neither NULs before it nor a header.
pub data BinaryCase (mode : LineMode) (most sum : ℕ) (s : List ℕ) : ℕ → Kind → BinaryFound → Type 0 where
  header_cut : header_of (line_from s) ≡ cut → BinaryCase mode most sum s 0 HeaderCut (cut_found s)
  header_wrong : header_of (line_from s) ≡ wrong → BinaryCase mode most sum s 0 HeaderWrong wrong_found
  new_line : {kind : Kind} {f : BinaryFound} (many : ℕ) → header_of (line_from s) ≡ counts many
      → DataCase most many (sum_of (take 4 (line_from s))) (drop 4 (line_from s)) mode kind f → BinaryCase mode most sum s 0 kind (behind (nuls_before s + 4) f)
  going_on : {kind : Kind} {f : BinaryFound} {to_come : ℕ} → 0 < to_come → DataCase most to_come sum s mode kind f → BinaryCase mode most sum s to_come kind f

-- the statuses that can come: bit 0 with another bit in normal mode only
pub data StatusOf : LineMode → ℕ → Type 0 where
  all_right : {mode : LineMode} → StatusOf mode 0
  short : {mode : LineMode} → StatusOf mode 1
  sum_wrong : {mode : LineMode} → StatusOf mode 2
  format_wrong : {mode : LineMode} → StatusOf mode 4
  end_met : {mode : LineMode} → StatusOf mode 64
  short_and_sum_wrong : StatusOf Normal 3
  short_and_end_met : StatusOf Normal 65
