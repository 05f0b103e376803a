-- Block 0: the header and the list of UICs.
use Rattle.std.specs.Prelude.{ℕ, ◌+◌, ◌*◌, ◌≤◌, ◌<◌, ◌≡◌, List, length}
use Rattle.words.specs.Word.{word_at}
use Rattle.pack.specs.Form.{segments_of, least_blocks, most_blocks_of, least_contents, most_contents_of, bodies_of, most_uics_of}
use Rattle.pack.specs.Geometry.{geometry_of, segment_bytes, block_words}

-- "word 3 is u, 0 to 64; then u UICs"
abbrev pub uic_count : List ℕ → ℕ
uic_count img = word_at img 3

abbrev pub uic_at : List ℕ → ℕ → ℕ
uic_at img i = word_at img (4 + i)

-- "a UIC of the list"
pub record Listed (img : List ℕ) (uic : ℕ) : Type 0 where
  pub at : ℕ
  pub within : at < uic_count img
  pub is : uic_at img at ≡ uic

-- what block 0 and the image's length say: `long` bytes, the form, n, c and u
pub record Measured (long form blocks contents uics : ℕ) : Type 0 where
  -- "Block 0: word 0 is 1;", or a form of document 02: which are known says `form_known` (proofs/FormBounds.antt)
  pub known : 0 < segments_of form
  -- "word 1 is n, the blocks in all, 16 to 1024;", in form 2 to 4096
  pub blocks_least : least_blocks ≤ blocks
  pub blocks_most : blocks ≤ most_blocks_of form
  -- "word 2 is c, 1 to 8;", in forms 2 and 3 to 32
  pub contents_least : least_contents ≤ contents
  pub contents_most : contents ≤ most_contents_of form
  -- there is a body: in form 1 by the bounds of n and c; form 2: "with c + 2 below n"; form 3: "with c + 1 below n"
  pub room : bodies_of form contents < blocks
  -- "word 3 is u, 0 to 64;"
  pub uics_most : uics ≤ most_uics_of form
  -- "the image is 512n bytes"
  pub size : long ≡ blocks * segment_bytes (segments_of form)

-- "u UICs, distinct and not 0": of `count` words, the first of them word `from`
pub record DistinctWords (bytes : List ℕ) (from count : ℕ) : Type 0 where
  pub some : (w : ℕ) → from ≤ w → w < from + count → word_at bytes w ≡ 0 → ⊥
  pub apart : (v w : ℕ) → from ≤ v → v < w → w < from + count → word_at bytes v ≡ word_at bytes w → ⊥

pub record RightHeader (img : List ℕ) : Type 0 where
  pub measured : Measured (length img) (word_at img 0) (word_at img 1) (word_at img 2) (uic_count img)
  -- "then u UICs, distinct and not 0;"
  pub uics : DistinctWords img 4 (uic_count img)
  -- "the rest 0."
  pub rest : (w : ℕ) → 4 + uic_count img ≤ w → w < block_words (geometry_of img) → word_at img w ≡ 0
