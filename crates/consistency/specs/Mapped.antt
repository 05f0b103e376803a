-- Means: the map of a pack's blocks on which an image is checked, as it is lent and as the check leaves it.
use Rattle.std.specs.Prelude.{ℕ, ◌%◌, ◌≤◌, ◌≡◌, true, List, length, get_or}
use Rattle.pack.specs.Geometry.{geometry_of}
use Rattle.pack.specs.Header.{RightHeader}
use Rattle.pack.specs.Consistent.{held}
use Rattle.consistency.specs.ConsistentTest.{empty_map, consistent}

-- an image of at most so many bytes has at most so many blocks, in whatever form: none is shorter than a segment
abbrev pub few_bytes : ℕ
few_bytes = 8192

abbrev pub few_blocks : ℕ
few_blocks = 64

-- so has one of at most so many bytes at most so many blocks: in forms 1 and 2 by its blocks of 512 bytes, in form 3 by its bound
abbrev pub many_bytes : ℕ
many_bytes = 524288

abbrev pub many_blocks : ℕ
many_blocks = 1024

-- a map lent for the check of an image: nothing is marked on it, and it has a place for each block; it is read sixteen at a time
pub record Lent (map img : List ℕ) : Type 0 where
  pub empty : map ≡ empty_map (length map)
  pub enough : RightHeader img → (geometry_of img).blocks ≤ length map
  pub whole : length map % 16 ≡ 0

-- what the check leaves on it: how often each block is held
pub record Mapped (map img : List ℕ) : Type 0 where
  pub enough : (geometry_of img).blocks ≤ length map
  pub says : (b : ℕ) → get_or map b 0 ≡ held img b

-- the same where the image was found consistent; of any other the map says nothing
abbrev pub MappedIf : List ℕ → List ℕ → Type 0
MappedIf map img = consistent img ≡ true → Mapped map img
