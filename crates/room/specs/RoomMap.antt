-- Means: what is free on a map that says how often each block is held, as the code counts and seeks it.
use Rattle.std.specs.Prelude.{ℕ, suc, zero, ◌+◌, ◌≤◌, ◌<◌, ◌≡◌, Bool, true, cond, ◌&&◌, List, [], ◌∷◌, eqb, leb, ltb, get_or, set, Some, None}
use Rattle.std.specs.declared.option.Option.{Option as Answered}
use Rattle.std.proofs.Math.Option.{Option, none, some}
use Rattle.pack.specs.declared.BlockNo.{BlockNo}
use Rattle.pack.specs.declared.Geometry.{Geometry}
use Rattle.pack.specs.File.{one}
use Rattle.pack.specs.Consistent.{total, held}

-- what a check of an image leaves
abbrev pub Says : List ℕ → List ℕ → Type 0
Says map img = (b : ℕ) → get_or map b 0 ≡ held img b

-- a block that the map has as held by nobody
abbrev pub is_free_on : List ℕ → ℕ → Bool
is_free_on map b = eqb (get_or map b 0) 0

-- how many of so many blocks from b on are free
unfoldable pub free_on : List ℕ → ℕ → ℕ → ℕ
free_on map b k = total (λ i. one (is_free_on map i)) b k

-- such a block of a pack whose bodies are numbered from `low` on and below `end`
unfoldable pub is_free_body : List ℕ → ℕ → ℕ → ℕ → Bool
is_free_body map low end b = leb low b && (ltb b end && is_free_on map b)

-- the same as a rule
pub record FreeOn (map : List ℕ) (g : Geometry) (b : ℕ) : Type 0 where
  pub body : g.bodies.0 ≤ b
  pub below : b < g.blocks
  pub nobody : get_or map b 0 ≡ 0

-- there is one below a block
pub record SomeBelow (map : List ℕ) (g : Geometry) (from : ℕ) : Type 0 where
  pub block : ℕ
  pub less : block < from
  pub free : FreeOn map g block

-- the blocks from one on and below another are held
pub record HeldFrom (map : List ℕ) (from end : ℕ) : Type 0 where
  pub within : from ≤ end
  pub never : (b : ℕ) → from ≤ b → b < end → get_or map b 0 ≡ 0 → ⊥

-- a block from which on no block of the pack is such a one
pub record NoneFrom (map : List ℕ) (g : Geometry) (from : ℕ) : Type 0 where
  pub within : from ≤ g.blocks
  pub never : (b : ℕ) → from ≤ b → b < g.blocks → get_or map b 0 ≡ 0 → ⊥

unfoldable pub are_free_on : List ℕ → ℕ → ℕ → ℕ → ℕ → Bool
are_free_on map low end b zero = true
are_free_on map low end b (suc k) = is_free_body map low end b && are_free_on map low end (b + 1) k

unfoldable pub run_on : List ℕ → ℕ → ℕ → ℕ → ℕ → Option ℕ
run_on map low end length zero = none
run_on map low end length (suc s) = cond (are_free_on map low end s length) (some s) (run_on map low end length s)

-- one block more from here on is free, or none
unfoldable pub free_after : Bool → ℕ → ℕ
free_after is_free free = cond is_free (free + 1) 0

-- how many of the `k` blocks from b on are free until one is not
unfoldable pub free_from : List ℕ → ℕ → ℕ → ℕ
free_from map b zero = 0
free_from map b (suc k) = free_after (is_free_on map b) (free_from map (b + 1) k)

-- where a run starts by the code's answer, or that there is none
abbrev pub start_in : Answered BlockNo → Option ℕ
start_in (Some b) = some b.0
start_in None = none

-- the map with `count` blocks from b on marked as held once
unfoldable pub marked_from : List ℕ → ℕ → ℕ → List ℕ
marked_from map b zero = map
marked_from map b (suc k) = set (marked_from map b k) (b + k) 1

-- the map with those blocks held by nobody
unfoldable pub unmarked : List ℕ → List ℕ → List ℕ
unmarked map [] = map
unmarked map (b ∷ bs) = unmarked (set map b 0) bs
