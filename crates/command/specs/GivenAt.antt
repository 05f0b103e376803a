-- Means: what is answered for the specification that stands at a place of a line.
use Rattle.std.specs.Prelude.{ℕ, ◌≤◌, ◌<◌, ◌≡◌, Bool, List, ◌++◌, ltb, length, drop}
use Rattle.command_grammar.specs.LineCharacters.{slash}
use Rattle.command_grammar.specs.Parsed.{Switch, Specification}
use Rattle.command_grammar.specs.Reader.{is, ok, many, switch, specification, from}
use Rattle.command_parts.specs.CappedParts.{capped_specification}
use Rattle.command_parts.specs.Numbers.{numbers_of}
use Rattle.command_switches.specs.Encoded.{encoded}
use Rattle.command.specs.Asking.{Asking}
use Rattle.command.specs.Asking as A

-- "52, switch buffer too short"; else its numbers, as far as 256, and the bytes of its switches
pub data SpecificationGiven (v : Specification) (buffer : List ℕ) : Asking → List ℕ → Type 0 where
  short : length buffer < length (encoded v.switches) → SpecificationGiven v buffer A.NoRoom buffer
  given : length (encoded v.switches) ≤ length buffer
      → SpecificationGiven v buffer (A.Given (numbers_of (capped_specification v))) (encoded v.switches ++ drop (length (encoded v.switches)) buffer)

pub record GivenAt (line : List ℕ) (at : ℕ) (buffer : List ℕ) (answer : Asking) (after : List ℕ) : Type 0 where
  pub gives : (v : Specification) (end : ℕ) → from specification line at ≡ ok v end → SpecificationGiven v buffer answer after

-- what its code goes by: a specification stands at a place; its switches begin at a place; and whether they take more than the room
pub record SpecificationAt (line : List ℕ) (at : ℕ) : Type 0 where
  pub what : Specification
  pub end : ℕ
  pub stands : from specification line at ≡ ok what end

pub record SwitchesAt (line : List ℕ) (start : ℕ) : Type 0 where
  pub at : ℕ
  pub what : SpecificationAt line at
  pub stand : from (many (is slash) switch) line start ≡ ok what.what.switches what.end

pub record LacksRoom (line : List ℕ) (start room : ℕ) (lacks : Bool) : Type 0 where
  pub tells : (ws : List Switch) (end : ℕ) → from (many (is slash) switch) line start ≡ ok ws end → lacks ≡ ltb room (length (encoded ws))
