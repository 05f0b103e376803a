-- The place at which a line that the grammar does not write is refused.
use Rattle.std.specs.Prelude.{ℕ, ◌≤◌, ◌<◌, List, ◌++◌, length, take}
use Rattle.command_grammar.specs.Parsed.{Parsed}
use Rattle.command_grammar.specs.Grammar.{Command}

-- it begins some line of the grammar; "lengths of whole lines aside": of any length
unfoldable pub Viable : List ℕ → Type 0
Viable beginning = (rest : List ℕ) × (said : Parsed) × Command (beginning ++ rest) said

-- the grammar does not write the line
unfoldable pub Wrong : List ℕ → Type 0
Wrong line = (said : Parsed) → Command line said → ⊥

-- "The place is the length of the longest beginning of the condensed line that begins some line of the grammar": no longer beginning does
pub record LinePlace (line : List ℕ) (place : ℕ) : Type 0 where
  pub wrong : Wrong line
  pub within : place ≤ length line
  pub begins : Viable (take place line)
  pub longest : (longer : ℕ) → place < longer → longer ≤ length line → Viable (take longer line) → ⊥
