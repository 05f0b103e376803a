-- A consistent image.
use Rattle.std.specs.Prelude.{ℕ, suc, zero, ◌+◌, ◌≤◌, ◌<◌, ◌≡◌, List, ◌⊎◌, ◌↔◌}
use Rattle.pack.specs.declared.Geometry.{Geometry}
use Rattle.pack.specs.Geometry.{geometry_of, slots}
use Rattle.pack.specs.Header.{RightHeader}
use Rattle.pack.specs.File.{count}
use Rattle.pack.specs.Map.{HasMap, map_bits, map_bit}
use Rattle.pack.specs.Entry.{entry_of, blocks_at, Empty, RightEntry}
use Rattle.pack.specs.Key.{key_in, SameKey}

-- the sum of a function over `k` numbers, the first of them `from`
unfoldable pub total : (ℕ → ℕ) → ℕ → ℕ → ℕ
total f from zero = 0
total f from (suc k) = f from + total f (from + 1) k

-- how often the files of all entries, under measures g, reach block b
abbrev pub held_in : List ℕ → Geometry → ℕ → ℕ
held_in img g b = total (λ e. count b (blocks_at img g e)) 0 (slots g)

-- how often files reach block b
unfoldable pub held : List ℕ → ℕ → ℕ
held img b = held_in img (geometry_of img) b

-- 02 §7: "block b is bit b mod 16 of word b / 16, 1 if system or held, 0 otherwise and for b from n up": by the rules of header and entries
-- no block from n up is the system's or held
pub record MapAgrees (img : List ℕ) (g : Geometry) : Type 0 where
  pub bit : HasMap g → (b : ℕ) → b < map_bits g → (map_bit img g b ≡ 1) ↔ ((b < g.bodies.0) ⊎ (0 < held_in img g b))

pub record Consistent (img : List ℕ) : Type 0 where
  -- "Consistent: the image is 512n bytes; all the above holds" of block 0;
  pub header : RightHeader img
  -- all the above holds of each entry: it is empty, or "used entries have ..", with the rules of its file
  pub entries : (e : ℕ) → e < slots (geometry_of img) → RightEntry img (geometry_of img) e
  -- "and differ in name, extension or UIC;": if e is in use and f has its key, f is in use too
  pub differ : (e f : ℕ) → e < f → f < slots (geometry_of img) → (Empty img (geometry_of img) e → ⊥)
      → SameKey (key_in (entry_of img (geometry_of img) e)) (key_in (entry_of img (geometry_of img) f)) → ⊥
  -- "no block is held twice;"
  pub once : (b : ℕ) → held img b ≤ 1
  -- 02 §7: "Consistent now includes that the map agrees, checked last"
  pub map : MapAgrees img (geometry_of img)
