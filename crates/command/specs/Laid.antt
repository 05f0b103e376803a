-- Means: what of the condensed line is laid so far.
use Rattle.std.specs.Prelude.{ℕ, ◌+◌, ◌≤◌, ◌≡◌, List, [], ◌∷◌, ◌++◌, length, take}
use Rattle.command.specs.Condensed.{condensed}

-- `count` characters were laid before; with one character more they are `next`
pub record LaidOne (before after : List ℕ) (count next character : ℕ) : Type 0 where
  pub few : next ≤ count + 1
  pub laid : take next after ≡ take count before ++ condensed (character ∷ [])

-- the first `count` are the condensed line
pub record CondensedTo (line after : List ℕ) (count : ℕ) : Type 0 where
  pub long : count ≡ length (condensed line)
  pub within : count ≤ length after
  pub laid : take count after ≡ condensed line
