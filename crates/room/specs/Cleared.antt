-- Blocks that are taken: cleared, document 02 §2, and marked on the map of a pack that has one, §7.
use Rattle.std.specs.Prelude.{ℕ, ◌+◌, ◌*◌, ◌≤◌, ◌<◌, ◌≡◌, ◌⊎◌, List, length, get_or, replicate}
use Rattle.pack.specs.declared.Geometry.{Geometry}
use Rattle.pack.specs.Geometry.{block_bytes}
use Rattle.pack.specs.Map.{bits_set}
use Rattle.bodies.specs.BlockBytes.{block_start, with_part}
use Rattle.room.specs.Room.{run_from}

-- "shall leave every block it takes all zero": every byte of `count` blocks from b on
unfoldable pub cleared : List ℕ → Geometry → ℕ → ℕ → List ℕ
cleared img g b count = with_part img (block_start g b) (replicate (count * block_bytes g) 0)

-- and "1 if system or held": the bit of each of them on the map
unfoldable pub taken : List ℕ → Geometry → ℕ → ℕ → List ℕ
taken img g b count = bits_set (cleared img g b count) g (run_from b count) 1

-- "taking a block for any use shall promise that it is cleared before use": what is promised of the clearing, of the image before and after, byte by byte
pub record ClearedBlocks (img img' : List ℕ) (g : Geometry) (b count : ℕ) : Type 0 where
  pub long : length img' ≡ length img
  pub zero : (k : ℕ) → k < count * block_bytes g → get_or img' (block_start g b + k) 0 ≡ 0
  pub others : (k : ℕ) → (k < block_start g b) ⊎ (block_start g b + count * block_bytes g ≤ k) → get_or img' k 0 ≡ get_or img k 0
