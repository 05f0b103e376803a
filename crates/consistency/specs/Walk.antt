-- Means: a walk over the blocks of a file, which takes each on a map. The map has 1 at a block that is taken and 0 at another.
use Rattle.std.specs.Prelude.{ℕ, suc, zero, ◌-◌, ◌≤◌, ◌<◌, Bool, true, ◌&&◌, List, [], ◌∷◌, ◌≡◌, eqb, leb, ltb, get_or, set}
use Rattle.pack.specs.declared.Geometry.{Geometry}
use Rattle.pack.specs.File.{next_of, chain}

-- each block in turn lies from `low` on and below `end`, and is not taken yet
unfoldable pub takes : ℕ → ℕ → List ℕ → List ℕ → Bool
takes low end map [] = true
takes low end map (b ∷ bs) = leb low b && (ltb b end && (eqb (get_or map b 0) 0 && takes low end (set map b 1) bs))

-- the map with those blocks taken
unfoldable pub mark : List ℕ → List ℕ → List ℕ
mark map [] = map
mark map (b ∷ bs) = mark (set map b 1) bs

-- the map with the first `count` blocks taken, or given back: those of the system
unfoldable pub system_set : List ℕ → ℕ → ℕ → List ℕ
system_set map zero taken = map
system_set map (suc count) taken = set (system_set map count taken) count taken

-- the blocks of the system are taken: then whoever finds a block not taken need not ask whether it is a body
pub record SystemTaken (map : List ℕ) (g : Geometry) : Type 0 where
  pub taken : (b : ℕ) → b < g.bodies.0 → get_or map b 0 ≡ 0 → ⊥

-- the `length` blocks of a file of a kind from `first` on
unfoldable pub blocks_from : List ℕ → Geometry → ℕ → ℕ → ℕ → List ℕ
blocks_from img g kind length first = chain (next_of img g kind) length first

-- the blocks from `first` to `behind` taken on a map that is left as map': `fine` says whether all could be, in whatever pack has them
pub record RunTaken (map : List ℕ) (first behind : ℕ) (fine : Bool) (map' : List ℕ) : Type 0 where
  pub taken : (img : List ℕ) (g : Geometry) → SystemTaken map g → behind ≤ g.blocks
      → fine ≡ takes g.bodies.0 g.blocks map (blocks_from img g 1 (behind - first) first)
  pub marked : (img : List ℕ) (g : Geometry) → fine ≡ true → map' ≡ mark map (blocks_from img g 1 (behind - first) first)
