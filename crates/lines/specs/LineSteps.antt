-- Means: a line read byte by byte, as the loops over the payloads read it: the next part goes on where the last one stopped.
use Rattle.std.specs.Prelude.{ℕ, ◌+◌, ◌-◌, min, Bool, true, false, cond, ◌&&◌, List, [], ◌∷◌, ◌++◌, leb, ltb, length, drop, set}
use Rattle.lines.specs.declared.LineMode.{LineMode}
use Rattle.lines.specs.declared.LineMode.TheVariants.{Normal, Special}
use Rattle.lines.specs.TextBytes.{seven_bits, is_discarded, is_terminator}
use Rattle.lines.specs.LineRead.{LineFound, status_bit}

abbrev pub is_special : LineMode → Bool
is_special Normal = false
is_special Special = true

-- how far the reading is: the buffer, the count, the bytes passed, and whether the line has ended, with the status in which it did
pub record LineState : Type 0 where
  pub buffer : List ℕ
  pub count : ℕ
  pub status : ℕ
  pub passed : ℕ
  pub ended : Bool

-- a byte kept is laid behind those before it, or over the last of the buffer
abbrev pub laid_over : ℕ → List ℕ → ℕ → ℕ → List ℕ
laid_over most buffer count y = set buffer (min count (most - 1)) y

-- so all bytes of a line
unfoldable pub laid_all : ℕ → List ℕ → ℕ → List ℕ → List ℕ
laid_all most buffer count [] = buffer
laid_all most buffer count (y ∷ line) = laid_all most (laid_over most buffer count y) (count + 1) line

unfoldable pub read_from : LineMode → ℕ → List ℕ → ℕ → ℕ → List ℕ → LineState
read_from mode most buffer count passed [] = record { buffer = buffer; count = count; status = 0; passed = passed; ended = false }
read_from mode most buffer count passed (x ∷ s) =
    cond
    (is_discarded (seven_bits x))
    (read_from mode most buffer count (passed + 1) s)
    (cond
    (is_terminator (seven_bits x))
    (record { buffer = laid_over most buffer count (seven_bits x); count = count + 1; status = status_bit (ltb most (count + 1)) 1; passed = passed + 1; ended = true })
    (cond
    (is_special mode && leb most (count + 1))
    (record { buffer = laid_over most buffer count (seven_bits x); count = count + 1; status = 1; passed = passed + 1; ended = true })
    (read_from mode most (laid_over most buffer count (seven_bits x)) (count + 1) (passed + 1) s)))

-- the next part, unless the line has ended
unfoldable pub read_on_from : LineMode → ℕ → LineState → List ℕ → LineState
read_on_from mode most state s = cond state.ended state (read_from mode most state.buffer state.count state.passed s)

-- the file ends: "Bit 6 means the file ended before a terminator"
unfoldable pub at_end : ℕ → LineState → LineState
at_end most state =
    cond
    state.ended
    state
    (record { buffer = state.buffer; count = state.count; status = 64 + status_bit (leb most state.count) 1; passed = state.passed; ended = true })

-- the state that a line leaves which is found as a whole
abbrev pub state_left : List ℕ → LineFound → LineState
state_left buffer f =
    record { buffer = f.laid ++ drop (length f.laid) buffer; count = f.count; status = f.status; passed = f.passed; ended = true }
