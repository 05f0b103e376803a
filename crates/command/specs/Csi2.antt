-- CSI2: its answers, the paper's numbers for each, and what is answered when. "Order: 53, ..; 50; 51, ..; 52, ..", "54, .., after 50"
-- and "51 and 52 follow it" is that each case has those before it against it.
use Rattle.std.specs.Prelude.{ℕ, ◌≤◌, ◌<◌, ◌≡◌, List, ◌++◌, length, drop}
use Rattle.std.proofs.Math.Option.{Option, none, some}
use Rattle.command_grammar.specs.Parsed.{Specification}
use Rattle.command_grammar.specs.Reading.{Reading, Reads, OverBound, side_of, specification_at}
use Rattle.command_grammar.specs.LinePlace.{LinePlace}
use Rattle.command_parts.specs.Numbers.{numbers_of}
use Rattle.command.specs.Condensed.{line_limit}
use Rattle.command_switches.specs.Encoded.{encoded}
use Rattle.command.specs.declared.csi2.SpecificationAnswer.{SpecificationAnswer}
use Rattle.command.specs.Asking.{Asking}
use Rattle.command.specs.Asking as A

-- a refusal: its code, the place "with 50 only", "any other number in the answer 0"
abbrev pub refusal : ℕ → ℕ → SpecificationAnswer
refusal code place =
    record {
      code = code;
      place = place;
      numbers =
          record {
            present = 0;
            device = 0;
            unit = 0;
            name1 = 0;
            name2 = 0;
            extension = 0;
            group = 0;
            user = 0;
            switches = 0;
          };
    }

abbrev pub asking_answer : Asking → SpecificationAnswer
asking_answer (A.Given numbers) = record { code = 0; place = 0; numbers = numbers }
asking_answer A.TooLong = refusal 0o53 0
asking_answer (A.Wrong place) = refusal 0o50 place
asking_answer A.TooLarge = refusal 0o54 0
asking_answer A.Missing = refusal 0o51 0
asking_answer A.NoRoom = refusal 0o52 0

-- the line has a reading, and at place k of a side of it there is this specification, or none
pub record FoundAt (line : List ℕ) (side k : ℕ) (found : Option Specification) : Type 0 where
  pub reading : Reading
  pub reads : Reads line reading
  pub there : specification_at k (side_of side reading) ≡ found

-- what is answered for specification k of a side, and what the lent buffer then holds
pub data Csi2 (line : List ℕ) (side k : ℕ) (buffer : List ℕ) : Asking → List ℕ → Type 0 where
  -- "53, over 128"
  long : line_limit < length line → Csi2 line side k buffer A.TooLong buffer
  -- "50"
  wrong : length line ≤ line_limit → {place : ℕ} → LinePlace line place → Csi2 line side k buffer (A.Wrong place) buffer
  -- "54, a number over its bound, after 50": in the whole line, whatever side and place are asked for
  large : length line ≤ line_limit → OverBound line → Csi2 line side k buffer A.TooLarge buffer
  -- "51, no such side or specification"
  missing : length line ≤ line_limit → FoundAt line side k none → Csi2 line side k buffer A.Missing buffer
  -- "52, switch buffer too short"
  short : length line ≤ line_limit → {v : Specification} → FoundAt line side k (some v) → length buffer < length (encoded v.switches)
      → Csi2 line side k buffer A.NoRoom buffer
  -- "It returns the parts .. and writes per switch ..": "The bytes behind stay."
  given : length line ≤ line_limit → {v : Specification} → FoundAt line side k (some v) → length (encoded v.switches) ≤ length buffer
      → Csi2 line side k buffer (A.Given (numbers_of v)) (encoded v.switches ++ drop (length (encoded v.switches)) buffer)

-- the same in the numbers that a host sees
pub data Csi2Answered (line : List ℕ) (side k : ℕ) (buffer : List ℕ) : SpecificationAnswer → List ℕ → Type 0 where
  answered : {answer : Asking} {after : List ℕ} → Csi2 line side k buffer answer after
      → Csi2Answered line side k buffer (asking_answer answer) after
