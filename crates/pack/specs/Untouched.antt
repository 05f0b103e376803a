-- A file that nobody touched: the same entry words and the same body bytes. Of a key that no file has, it says nothing of words and bytes.
use Rattle.std.specs.Prelude.{ℕ, ◌+◌, ◌*◌, ◌<◌, ◌≡◌, List, length, get_or}
use Rattle.pack.specs.declared.Key.{Key}
use Rattle.pack.specs.Geometry.{geometry_of, block_bytes, slots}
use Rattle.pack.specs.File.{count}
use Rattle.pack.specs.Key.{key_in, SameKey}
use Rattle.pack.specs.Entry.{entry_word, entry_of, blocks_at, Empty}

pub record Untouched (key : Key) (img img' : List ℕ) : Type 0 where
  pub size : length img' ≡ length img
  pub measures : geometry_of img' ≡ geometry_of img
  pub words : (e : ℕ) → e < slots (geometry_of img) → (Empty img (geometry_of img) e → ⊥) → SameKey (key_in (entry_of img (geometry_of img) e)) key
      → (i : ℕ) → i < 16 → entry_word img' (geometry_of img) e i ≡ entry_word img (geometry_of img) e i
  pub bytes : (e : ℕ) → e < slots (geometry_of img) → (Empty img (geometry_of img) e → ⊥) → SameKey (key_in (entry_of img (geometry_of img) e)) key
      → (b : ℕ) → 0 < count b (blocks_at img (geometry_of img) e)
      → (i : ℕ) → i < block_bytes (geometry_of img) → get_or img' (b * block_bytes (geometry_of img) + i) 0 ≡ get_or img (b * block_bytes (geometry_of img) + i) 0
