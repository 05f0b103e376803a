-- Means: an entry that keeps its file: its kind, its first block, its length and its last block, and the way from each block to the next.
use Rattle.std.specs.Prelude.{ℕ, ◌+◌, ◌≤◌, ◌<◌, ◌≡◌, List, ◌⊎◌, ltb}
use Rattle.radix.specs.Names.{LegalName, LegalExtension}
use Rattle.pack.specs.declared.Geometry.{Geometry}
use Rattle.pack.specs.declared.Entry.{Entry}
use Rattle.pack.specs.Header.{Listed}
use Rattle.pack.specs.File.{next_of, one, count}
use Rattle.pack.specs.Entry.{entry_word, entry_of, blocks_at}

pub record Described (img img' : List ℕ) (g : Geometry) (e : ℕ) : Type 0 where
  pub file : (i : ℕ) → 5 ≤ i → i ≤ 8 → entry_word img' g e i ≡ entry_word img g e i
  pub rest : (i : ℕ) → 11 ≤ i → i < 16 → entry_word img' g e i ≡ entry_word img g e i
  pub next : (b : ℕ) → 0 < count b (blocks_at img g e) → next_of img' g (entry_of img g e).kind b ≡ next_of img g (entry_of img g e).kind b

-- the rules of what else an entry in use says: `Used`, but for the file
pub record Description (img : List ℕ) (x : Entry) : Type 0 where
  pub name : LegalName x.name1 x.name2
  pub extension : LegalExtension x.extension
  pub uic : Listed img x.uic
  pub protect : x.protect ≤ 255
  pub contiguous : x.kind ≡ 1 → (x.writer ≡ 0) ⊎ (x.writer ≡ 1)
  pub linked : x.kind ≡ 2 → (x.writer ≡ 0) ⊎ ((x.writer ≡ 2) ⊎ (x.writer ≡ 3))
  pub opens : x.readers + one (ltb 0 x.writer) ≤ 62
