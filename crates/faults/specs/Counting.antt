-- Means: how often files reach each block, counted up to 2, and what the bits of a map must be by that.
use Rattle.std.specs.Prelude.{ℕ, ◌+◌, ◌-◌, ◌≤◌, ◌<◌, ◌≡◌, List, ◌↔◌, get_or}
use Rattle.pack.specs.declared.Geometry.{Geometry}
use Rattle.pack.specs.declared.Entry.{Entry}
use Rattle.pack.specs.Geometry.{slots}
use Rattle.pack.specs.File.{count, blocks_of}
use Rattle.pack.specs.Entry.{blocks_at}
use Rattle.pack.specs.Map.{map_bit}
use Rattle.pack.specs.Consistent.{total}

-- 0, 1 or more: a number that is told up to 2
pub record Capped (told number : ℕ) : Type 0 where
  pub none : told ≡ 0 → number ≡ 0
  pub one : told ≡ 1 → number ≡ 1
  pub more : 2 ≤ told → 2 ≤ number

-- what is counted so far, with what is left, is what is to be counted
pub record Counted (counts : List ℕ) (left goal : ℕ → ℕ) : Type 0 where
  pub so_far : ℕ → ℕ
  pub told : (b : ℕ) → Capped (get_or counts b 0) (so_far b)
  pub whole : (b : ℕ) → so_far b + left b ≡ goal b

-- what is left: the files of the entries from e on, or nothing
abbrev pub files_from : List ℕ → Geometry → ℕ → ℕ → ℕ
files_from img g e b = total (λ i. count b (blocks_at img g i)) e (slots g - e)

abbrev pub none : ℕ → ℕ
none b = 0

-- a file is counted: what was to be counted with its blocks, and something besides them, is that without them
abbrev pub CountsFile : List ℕ → Geometry → Entry → List ℕ → List ℕ → Type 0
CountsFile img g x before behind =
    (left goal : ℕ → ℕ) → Counted before (λ b. count b (blocks_of img g x) + left b) goal → Counted behind left goal

-- "1 if system or held, 0 otherwise and for b from n up", and a bit that is so
pub data Due (counts : List ℕ) (g : Geometry) (b : ℕ) : Type 0 where
  system : b < g.bodies.0 → Due counts g b
  counted : b < g.blocks → 0 < get_or counts b 0 → Due counts g b

abbrev pub BitRight : List ℕ → Geometry → List ℕ → ℕ → Type 0
BitRight img g counts b = (map_bit img g b ≡ 1) ↔ Due counts g b
