-- Means: what is left to be measured behind the name of a switch.
use Rattle.std.specs.Prelude.{ℕ, ◌+◌, ◌*◌, ◌≡◌, List, length}
use Rattle.command_grammar.specs.LineCharacters.{colon, slash}
use Rattle.command_grammar.specs.Parsed.{Switch}
use Rattle.command_grammar.specs.Reader.{is, ok, many, switch_value, switch, from}
use Rattle.command_switches.specs.Encoded.{encoded}

-- values stand at a place, and switches behind them, which take so many bytes together
pub record BehindName (line : List ℕ) (at bytes : ℕ) : Type 0 where
  pub values : List (List ℕ)
  pub middle : ℕ
  pub switches : List Switch
  pub end : ℕ
  pub values_stand : from (many (is colon) switch_value) line at ≡ ok values middle
  pub switches_stand : from (many (is slash) switch) line middle ≡ ok switches end
  pub all : bytes ≡ 4 * length values + length (encoded switches)
