-- The blocks that a request takes for a file: free before, the highest of the free ones, and joined at the end of the file.
use Rattle.std.specs.Prelude.{ℕ, ◌<◌, ◌≡◌, List, ◌++◌}
use Rattle.pack.specs.declared.Key.{Key}
use Rattle.pack.specs.Geometry.{geometry_of}
use Rattle.pack.specs.File.{count}
use Rattle.pack.specs.Entry.{blocks_at}
use Rattle.pack.specs.Owner.{FreeBlock}
use Rattle.asking.specs.Asked.{entry_no}

pub record Taken (img img' : List ℕ) (key : Key) (blocks : List ℕ) : Type 0 where
  pub joined : blocks_at img' (geometry_of img) (entry_no img key) ≡ blocks_at img (geometry_of img) (entry_no img key) ++ blocks
  pub free : (b : ℕ) → 0 < count b blocks → FreeBlock img b
  -- a free block that was not taken lies below each that was
  pub highest : (b other : ℕ) → 0 < count b blocks → FreeBlock img other → count other blocks ≡ 0 → other < b
