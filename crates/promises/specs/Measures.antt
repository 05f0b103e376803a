-- The measures of a pack in the papers' own numbers, each under its sentence. The form that word 0 names decides them, and each form has its row:
-- document 01 has form 1, document 02 §7 form 2 and §11 form 3.
use Rattle.std.specs.Prelude.{ℕ, ◌+◌, ◌*◌, ◌/◌, ◌%◌, ◌^◌, ◌≤◌, ◌<◌, ◌≡◌, List, length}
use Rattle.words.specs.Word.{word_at}
use Rattle.pack.specs.Geometry.{geometry_of, block_words, block_bytes, payload_bytes, block_at, slots, entry_at}
use Rattle.bodies.specs.BlockBytes.{block_start, payload_start}
use Rattle.creation.specs.Rounding.{length_for}

-- what block 0 and the image's length say, and what Format is told, in a form with blocks of so many bytes, so many of the system beside the contents, and
-- at most so many blocks, blocks of contents and UICs: `long` bytes, n, c and u
pub record HeaderNumbers (bytes system most_blocks most_contents most_uics long n c u : ℕ) : Type 0 where
  -- "word 1 is n, the blocks in all, 16 to 1024;", and "n to 4096"
  pub blocks_least : 16 ≤ n
  pub blocks_most : n ≤ most_blocks
  -- "word 2 is c, 1 to 8;", and "c to 32"
  pub contents_least : 1 ≤ c
  pub contents_most : c ≤ most_contents
  -- "with c + 2 below n", "with c + 1 below n": in form 1 by the bounds of n and c
  pub room : c + system < n
  -- "word 3 is u, 0 to 64;", and "at most 60 UICs"
  pub uics_most : u ≤ most_uics
  -- "the image is 512n bytes"
  pub size : long ≡ bytes * n

pub data DocumentHeader (long : ℕ) : (form n c u : ℕ) → Type 0 where
  -- 01: "Block 0: word 0 is 1; word 1 is n, the blocks in all, 16 to 1024; word 2 is c, 1 to 8; word 3 is u, 0 to 64"; "the image is 512n bytes"
  header_1 : {n c u : ℕ} → HeaderNumbers 512 1 1024 8 64 long n c u → DocumentHeader long 1 n c u
  -- 02 §7: "In form 2, word 0 is 2 .. Form 2 allows n to 4096 and c to 32, with c + 2 below n"
  header_2 : {n c u : ℕ} → HeaderNumbers 512 2 4096 32 64 long n c u → DocumentHeader long 2 n c u
  -- 02 §11: "Form 3 (word 0 is 3) is form 1 with blocks of 64 words: .. at most 60 UICs, c to 32 with c + 1 below n"
  header_3 : {n c u : ℕ} → HeaderNumbers 128 1 1024 32 60 long n c u → DocumentHeader long 3 n c u

-- the measures of an image whose blocks have so many words, bytes, entries and payload bytes, and which takes so many blocks for N segments
pub record BlockNumbers (words bytes entries_each payload : ℕ) (blocks_for : ℕ → ℕ) (img : List ℕ) : Type 0 where
  -- "A block is 256 words."
  pub block_words_is : block_words (geometry_of img) ≡ words
  pub block_bytes_is : block_bytes (geometry_of img) ≡ bytes
  -- so block b begins at that many words, and bytes, times b
  pub block_at_is : (b : ℕ) → block_at (geometry_of img) b ≡ words * b
  pub block_start_is : (b : ℕ) → block_start (geometry_of img) b ≡ bytes * b
  -- "Blocks 1 to c: 16 entries each, of 16 words"
  pub entries : slots (geometry_of img) ≡ entries_each * word_at img 2
  pub entry_at_is : (e : ℕ) → entry_at (geometry_of img) e ≡ words + 16 * e
  -- "its payload is the 510 bytes that start at byte 2 of a block."
  pub payload_bytes_is : payload_bytes (geometry_of img) ≡ payload
  pub payload_start_is : (b : ℕ) → payload_start (geometry_of img) b ≡ bytes * b + 2
  -- "N segments (000: B = 4 per block) make N/4 blocks rounded up."
  pub rounding : (segments : ℕ) → length_for img segments ≡ blocks_for segments

pub data BlocksOf (img : List ℕ) : (form : ℕ) → Type 0 where
  -- 01: "A block is 256 words", "16 entries each", "the 510 bytes that start at byte 2", "N/4 blocks rounded up"
  blocks_1 : BlockNumbers 256 512 16 510 (λ segments. (segments + 3) / 4) img → BlocksOf img 1
  -- 02 §7 has blocks as they are
  blocks_2 : BlockNumbers 256 512 16 510 (λ segments. (segments + 3) / 4) img → BlocksOf img 2
  -- 02 §11: "blocks of 64 words: four entries a block, .. linked payload 126 bytes, block buffers of 128 .. ALLOC of N takes N blocks."
  blocks_3 : BlockNumbers 64 128 4 126 (λ segments. segments) img → BlocksOf img 3

-- how many blocks are the system's: 01, "So c + 1, the stored lengths and the free blocks .. add to n"; 02 §7: "Blocks 0 to c + 1 are system; bodies lie above."
pub data SystemBlocks (c : ℕ) : (form blocks : ℕ) → Type 0 where
  system_1 : SystemBlocks c 1 (c + 1)
  system_2 : SystemBlocks c 2 (c + 2)
  system_3 : SystemBlocks c 3 (c + 1)

-- 02 §7: "block c + 1 is a map: block b is bit b mod 16 of word b / 16": of block c + 1, of 256 words
abbrev pub bit_in_map : List ℕ → ℕ → ℕ
bit_in_map img b = (word_at img (256 * (word_at img 2 + 1) + b / 16) / 2 ^ (b % 16)) % 2

-- "An image's form decides, never the caller."
pub record DocumentMeasures (img : List ℕ) : Type 0 where
  pub header : DocumentHeader (length img) (word_at img 0) (word_at img 1) (word_at img 2) (word_at img 3)
  pub blocks_of : BlocksOf img (word_at img 0)
  -- "word 1 is n, the blocks in all", "word 2 is c", "Blocks 1 to c ..", "Other blocks are bodies.": the first of them comes behind the system's
  pub blocks : (geometry_of img).blocks ≡ word_at img 1
  pub contents : (geometry_of img).contents ≡ word_at img 2
  pub bodies : SystemBlocks (word_at img 2) (word_at img 0) (geometry_of img).bodies.0
