-- Means: the bits of a map as numbers, those that it has and those that it must have.
use Rattle.std.specs.Prelude.{ℕ, ◌+◌, ◌<◌, ◌≡◌, List, ltb}
use Rattle.pack.specs.declared.Geometry.{Geometry}
use Rattle.pack.specs.File.{one}
use Rattle.pack.specs.Map.{HasMap, map_bits, map_bit}
use Rattle.pack.specs.Consistent.{held_in}

-- the map, where there is one, has these bits
pub record MapSays (img : List ℕ) (g : Geometry) (bit : ℕ → ℕ) : Type 0 where
  pub is : HasMap g → (b : ℕ) → b < map_bits g → map_bit img g b ≡ bit b

-- how often the system and files hold block b: at most once in a consistent image, and then this is its bit (`agrees_says`)
unfoldable pub marking : List ℕ → Geometry → ℕ → ℕ
marking img g b = one (ltb b g.bodies.0) + held_in img g b
