-- CSI1: its answers, the paper's numbers for each, and what is answered when. "Order: 53, ..; 52, ..; 50, .." and "54, .., after 50" is
-- that each case has those before it against it.
use Rattle.std.specs.Prelude.{ℕ, ◌≤◌, ◌<◌, List, ◌++◌, length, drop}
use Rattle.answers.specs.declared.Answer.{Answer}
use Rattle.command_grammar.specs.Reading.{Reading, Reads, OverBound}
use Rattle.command_grammar.specs.LinePlace.{LinePlace}
use Rattle.command.specs.Condensed.{condensed, TooLong}
use Rattle.command.specs.Condensing.{Condensing}
use Rattle.command.specs.Condensing as C

-- the code, and the number: "Success returns the condensed length", 50 "with the place", which "is given with 50 only"
abbrev pub condensing_answer : Condensing → Answer
condensing_answer (C.Accepted length) = record { code = 0; number = length }
condensing_answer C.TooLong = record { code = 0o53; number = 0 }
condensing_answer C.NoRoom = record { code = 0o52; number = 0 }
condensing_answer (C.Wrong place) = record { code = 0o50; number = place }
condensing_answer C.TooLarge = record { code = 0o54; number = 0 }

-- what is answered, and what the lent buffer then holds
pub data Csi1 (line buffer : List ℕ) : Condensing → List ℕ → Type 0 where
  -- "53, raw line over 512 or condensed over 128"
  long : TooLong line → Csi1 line buffer C.TooLong buffer
  -- "52, buffer shorter than the condensed line"
  short : (TooLong line → ⊥) → length buffer < length (condensed line) → Csi1 line buffer C.NoRoom buffer
  -- "50, not in the grammar, with the place"
  wrong : (TooLong line → ⊥) → length (condensed line) ≤ length buffer → {place : ℕ} → LinePlace (condensed line) place
      → Csi1 line buffer (C.Wrong place) buffer
  -- "54, a number over its bound, after 50"
  large : (TooLong line → ⊥) → length (condensed line) ≤ length buffer → OverBound (condensed line) → Csi1 line buffer C.TooLarge buffer
  -- "writes the rest to the start of a lent buffer, whose remainder stays"
  accepted : (TooLong line → ⊥) → length (condensed line) ≤ length buffer → {reading : Reading} → Reads (condensed line) reading
      → Csi1 line buffer (C.Accepted (length (condensed line))) (condensed line ++ drop (length (condensed line)) buffer)

-- the same in the numbers that a host sees
pub data Csi1Answered (line buffer : List ℕ) : Answer → List ℕ → Type 0 where
  answered : {answer : Condensing} {after : List ℕ} → Csi1 line buffer answer after → Csi1Answered line buffer (condensing_answer answer) after
