-- The measures of a pack, and where its blocks and entries stand. All is said over the segments in a block.
use Rattle.std.specs.Prelude.{ℕ, ◌+◌, ◌*◌, ◌-◌, List}
use Rattle.words.specs.Word.{word_at}
use Rattle.pack.specs.declared.Geometry.{Geometry}
use Rattle.pack.specs.Form.{segments_of, bodies_of}

-- the measures that an image states
unfoldable pub geometry_of : List ℕ → Geometry
geometry_of img =
    record {
      segments = record { 0 = segments_of (word_at img 0) };
      blocks = word_at img 1;
      contents = word_at img 2;
      bodies = record { 0 = bodies_of (word_at img 0) (word_at img 2) };
    }

-- "Blocks, 64-word segments and words are separate units (000, 2.7.1); a block number in the pack is also kept apart from a block's place in a file."
-- The words and the bytes of so many segments, and of a block
abbrev pub segment_words : ℕ → ℕ
segment_words segments = 64 * segments

abbrev pub segment_bytes : ℕ → ℕ
segment_bytes segments = 128 * segments

abbrev pub block_words : Geometry → ℕ
block_words g = segment_words g.segments.0

abbrev pub block_bytes : Geometry → ℕ
block_bytes g = segment_bytes g.segments.0

-- "its payload is the 510 bytes that start at byte 2 of a block": all of a linked block but its link
abbrev pub payload_bytes : Geometry → ℕ
payload_bytes g = block_bytes g - 2

-- the first word of block b
abbrev pub block_at : Geometry → ℕ → ℕ
block_at g b = b * block_words g

-- "Blocks 1 to c: 16 entries each, of 16 words": entries run on over the blocks of contents
abbrev pub slots : Geometry → ℕ
slots g = g.contents * (4 * g.segments.0)

-- the first word of entry e, counted in stored order from 0
abbrev pub entry_at : Geometry → ℕ → ℕ
entry_at g e = block_words g + 16 * e
