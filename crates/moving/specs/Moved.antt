-- A pack moved to the other form (document 02 §8): what stands where in the target, word by word and byte by byte, all of it said of the source.
use Rattle.std.specs.Prelude.{ℕ, ◌+◌, ◌*◌, ◌≤◌, ◌<◌, ◌≡◌, List, ◌⊎◌, ◌↔◌, length, get_or}
use Rattle.words.specs.Word.{word_at}
use Rattle.pack.specs.declared.Geometry.{Geometry}
use Rattle.pack.specs.declared.Entry.{Entry}
use Rattle.pack.specs.Geometry.{geometry_of, block_words, block_bytes, slots}
use Rattle.pack.specs.File.{link_of, count}
use Rattle.pack.specs.Entry.{entry_word, entry_of, blocks_at}
use Rattle.pack.specs.Map.{HasMap, map_bits, map_bit}
use Rattle.pack.specs.Consistent.{held_in}
use Rattle.moving.specs.declared.Way.{Way}
use Rattle.moving.specs.Ways.{back, to_form, moved, renumbered}

-- the measures of the target: a block more, or less, so that the bodies begin one block further on, or back
abbrev pub moved_measures : Way → Geometry → Geometry
moved_measures way g =
    record { segments = g.segments; blocks = moved way g.blocks; contents = g.contents; bodies = record { 0 = moved way g.bodies.0 } }

-- block b is in a linked file: document 01, "In a linked file word 0 of a block is the next block"
pub record OfLinked (img : List ℕ) (g : Geometry) (b : ℕ) : Type 0 where
  pub entry : ℕ
  pub within : entry < slots g
  pub kind : (entry_of img g entry).kind ≡ 2
  pub has : 0 < count b (blocks_at img g entry)

-- of a source with measures g
pub record Moved (way : Way) (src dst : List ℕ) (g : Geometry) : Type 0 where
  -- "in a second lent image with one block more:"
  pub long : length dst ≡ moved way g.blocks * block_bytes g
  -- "contents are copied with the new form and n,": block 0,
  pub form : word_at dst 0 ≡ to_form way
  pub blocks : word_at dst 1 ≡ moved way g.blocks
  pub header : (w : ℕ) → 2 ≤ w → w < block_words g → word_at dst w ≡ word_at src w
  -- and the entries;
  pub entries : (e : ℕ) → e < slots g → (i : ℕ) → i < 16 → (i ≡ 6 → ⊥) → (i ≡ 8 → ⊥) → entry_word dst g e i ≡ entry_word src g e i
  -- "first, last .. numbers that are not 0 rise by one"
  pub first : (e : ℕ) → e < slots g → entry_word dst g e 6 ≡ renumbered way (entry_word src g e 6)
  pub last : (e : ℕ) → e < slots g → entry_word dst g e 8 ≡ renumbered way (entry_word src g e 8)
  -- "the map is made," where the target's form has one: "block b is bit b mod 16 of word b / 16, 1 if system or held, 0 otherwise and for b from n up", and held is what is held here
  pub map : HasMap (moved_measures way g) → (b : ℕ) → b < map_bits (moved_measures way g)
      → (map_bit dst (moved_measures way g) b ≡ 1) ↔ ((b < moved way g.bodies.0) ⊎ (0 < held_in src g (moved (back way) b)))
  -- "every body moves up by one block,": byte for byte, but for links. "Free bodies and contiguous ones are copied untouched."
  pub bodies : (b : ℕ) → g.bodies.0 ≤ b → b < g.blocks → (i : ℕ) → i < block_bytes g → (i < 2 → OfLinked src g b → ⊥)
      → get_or dst (moved way b * block_bytes g + i) 0 ≡ get_or src (b * block_bytes g + i) 0
  -- "and .. link numbers that are not 0 rise by one"
  pub links : (b : ℕ) → OfLinked src g b → link_of dst g (moved way b) ≡ renumbered way (link_of src g b)

-- the same of the measures that the source states
abbrev pub Moves : Way → List ℕ → List ℕ → Type 0
Moves way src dst = Moved way src dst (geometry_of src)

-- what a file's entry becomes, in the words that are in use: all of it, opens too, but for first and last
abbrev pub moved_entry : Way → Entry → Entry
moved_entry way x =
    record {
      name1 = x.name1;
      name2 = x.name2;
      extension = x.extension;
      uic = x.uic;
      protect = x.protect;
      kind = x.kind;
      first = record { 0 = renumbered way x.first.0 };
      length = x.length;
      last = record { 0 = renumbered way x.last.0 };
      writer = x.writer;
      readers = x.readers;
    }

-- an image is a list of bytes, as every lent slice is (the contracts of `to_form2` and `to_form1` say so of theirs)
abbrev pub Bytes : List ℕ → Type 0
Bytes img = (k : ℕ) → get_or img k 0 < 256
