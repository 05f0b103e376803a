-- Entries: their words, empty ones, and the rules of one in use.
use Rattle.std.specs.Prelude.{ℕ, ◌+◌, ◌≤◌, ◌<◌, ◌≡◌, List, ◌⊎◌, ltb}
use Rattle.words.specs.Word.{word_at}
use Rattle.radix.specs.Names.{LegalName, LegalExtension}
use Rattle.pack.specs.declared.Geometry.{Geometry}
use Rattle.pack.specs.declared.Entry.{Entry}
use Rattle.pack.specs.Geometry.{entry_at}
use Rattle.pack.specs.Header.{Listed}
use Rattle.pack.specs.File.{next_of, after, last_of, blocks_of, one, count}

-- word i of entry e
unfoldable pub entry_word : List ℕ → Geometry → ℕ → ℕ → ℕ
entry_word img g e i = word_at img (entry_at g e + i)

-- "0, 1 name; 2 extension; 3 UIC (group high byte, user low byte); 4 protect code ..; 5 kind (1 contiguous, 2 linked); 6 first block; 7 length in blocks; 8 last block; 9 writer (0 none, 1 U,
-- 2 O, 3 E); 10 readers"
unfoldable pub entry_of : List ℕ → Geometry → ℕ → Entry
entry_of img g e =
    record {
      name1 = entry_word img g e 0;
      name2 = entry_word img g e 1;
      extension = entry_word img g e 2;
      uic = entry_word img g e 3;
      protect = entry_word img g e 4;
      kind = entry_word img g e 5;
      first = record { 0 = entry_word img g e 6 };
      length = entry_word img g e 7;
      last = record { 0 = entry_word img g e 8 };
      writer = entry_word img g e 9;
      readers = entry_word img g e 10;
    }

abbrev pub blocks_at : List ℕ → Geometry → ℕ → List ℕ
blocks_at img g e = blocks_of img g (entry_of img g e)

-- "An empty entry is all zero."
pub record Empty (img : List ℕ) (g : Geometry) (e : ℕ) : Type 0 where
  pub zero : (i : ℕ) → i < 16 → entry_word img g e i ≡ 0

-- "a contiguous file has length at least 1 and last = first + length - 1"; "a contiguous file's writer is 0 or 1"
pub record Contiguous (x : Entry) : Type 0 where
  pub kind : x.kind ≡ 1
  pub length : 1 ≤ x.length
  pub last : x.last.0 + 1 ≡ x.first.0 + x.length
  pub writer : (x.writer ≡ 0) ⊎ (x.writer ≡ 1)

-- "a linked file's chain has exactly its length and ends at its last block, and at length 0 both numbers are 0";
-- "a linked one's [writer is] 0, 2 or 3". A chain without blocks ends where it begins, and has 0 for its last block: so at length 0 both are 0.
-- That no 0 comes before the end is `Used.bodies`: each block is above c. So a linked file is only spoken of within `Used`.
pub record Linked (img : List ℕ) (g : Geometry) (x : Entry) : Type 0 where
  pub kind : x.kind ≡ 2
  pub end : after (next_of img g 2) x.length x.first.0 ≡ 0
  pub last : last_of (next_of img g 2) 0 x.length x.first.0 ≡ x.last.0
  pub writer : (x.writer ≡ 0) ⊎ ((x.writer ≡ 2) ⊎ (x.writer ≡ 3))

-- the rules of an entry in use that need no other entry
pub record Used (img : List ℕ) (g : Geometry) (e : ℕ) (x : Entry) : Type 0 where
  -- "used entries have a legal name, a UIC of the list"
  pub name : LegalName x.name1 x.name2
  pub extension : LegalExtension x.extension
  pub uic : Listed img x.uic
  -- "4 protect code, 0 to 255"
  pub protect : x.protect ≤ 255
  pub kind : Contiguous x ⊎ Linked img g x
  -- "11 to 15 zero"
  pub rest : (i : ℕ) → 11 ≤ i → i < 16 → entry_word img g e i ≡ 0
  -- "bodies are numbered above c and below n"
  pub bodies : (b : ℕ) → 0 < count b (blocks_of img g x) → (g.bodies.0 ≤ b) × (b < g.blocks)
  -- "readers, plus 1 if there is a writer, are at most 62 (000: 76 octal)"
  pub opens : x.readers + one (ltb 0 x.writer) ≤ 62

abbrev pub RightEntry : List ℕ → Geometry → ℕ → Type 0
RightEntry img g e = Empty img g e ⊎ Used img g e (entry_of img g e)
