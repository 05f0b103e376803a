-- Means: how far the code is that reads a line, as a state of the reading.
use Rattle.std.specs.Prelude.{ℕ, ◌+◌, ◌≤◌, ◌≡◌, true, false, Some, None, is_some, List, length, drop}
use Rattle.std.specs.declared.option.Option.{Option}
use Rattle.stream.specs.declared.Tail.{Tail}
use Rattle.stream.specs.Spot.{most_bytes}
use Rattle.stream.specs.Tail.{rest}
use Rattle.lines.specs.declared.LineMode.{LineMode}
use Rattle.lines.specs.declared.line_read.LineRead.{LineRead}
use Rattle.lines.specs.declared.line_read.Reader.{Reader}
use Rattle.lines.specs.declared.line_read.Role.{Role}
use Rattle.lines.specs.declared.line_read.Role.TheVariants.{Discarded, Terminator, Plain}
use Rattle.lines.specs.TextBytes.{is_discarded, is_terminator}
use Rattle.lines.specs.LineSteps.{LineState, read_from}

-- what a character is to a reader
pub data IsRole (y : ℕ) : Role → Type 0 where
  discarded : is_discarded y ≡ true → IsRole y Discarded
  terminator : is_discarded y ≡ false → is_terminator y ≡ true → IsRole y Terminator
  plain : is_discarded y ≡ false → is_terminator y ≡ false → IsRole y Plain

-- the status in which the line has ended: 0 where it goes on
abbrev pub status_in : Option ℕ → ℕ
status_in (Some status) = status
status_in None = 0

-- the buffer is lent, and no part of it
abbrev pub state_of : List ℕ → Reader → LineState
state_of buffer r = record { buffer = buffer; count = r.count; status = status_in r.ended; passed = r.passed; ended = is_some r.ended }

-- a line that was read to its end, from position 0 on
abbrev pub state_ended : List ℕ → LineRead → LineState
state_ended buffer r = record { buffer = buffer; count = r.count; status = r.status; passed = r.position; ended = true }

-- within a part: what is read of it so far, and what is left leads to the same state
pub record PartReading (mode : LineMode) (most count₀ passed : ℕ) (part : List ℕ) (whole : LineState) (buffer : List ℕ) (count i : ℕ) : Type 0 where
  pub long : length buffer ≡ most
  pub within : i ≤ length part
  pub few : count ≤ count₀ + i
  pub same : whole ≡ read_from mode most buffer count (passed + i) (drop i part)

-- behind the payloads before: what is still to be read leads to the same state
pub record Following (mode : LineMode) (most : ℕ) (whole : LineState) (buffer : List ℕ) (count passed : ℕ) (tail : Tail) : Type 0 where
  pub long : length buffer ≡ most
  pub few : count ≤ passed
  pub room : passed + length (rest tail) ≤ most_bytes
  pub same : whole ≡ read_from mode most buffer count passed (rest tail)
