-- The rules of consistency one by one, as document 01 and document 02 §7 have them, with the entry, the word and the block that each is about: document 02 §6.
use Rattle.std.specs.Prelude.{ℕ, ◌+◌, ◌*◌, ◌≤◌, ◌<◌, ◌≡◌, cond, ◌⊎◌, ◌↔◌, List, length, eqb, ltb}
use Rattle.words.specs.Word.{word_at}
use Rattle.radix.specs.Names.{LegalName, LegalExtension}
use Rattle.pack.specs.declared.Entry.{Entry}
use Rattle.pack.specs.declared.Geometry.{Geometry}
use Rattle.pack.specs.Form.{segments_of, least_blocks, most_blocks_of, least_contents, most_contents_of, bodies_of, most_uics_of}
use Rattle.pack.specs.Geometry.{geometry_of, segment_bytes}
use Rattle.pack.specs.Header.{Listed, uic_count}
use Rattle.pack.specs.File.{next_of, after, one}
use Rattle.pack.specs.Entry.{entry_word, entry_of, Empty}
use Rattle.pack.specs.Key.{key_in, SameKey}
use Rattle.pack.specs.Map.{HasMap, map_bit}
use Rattle.pack.specs.Consistent.{held}

-- A rule, by what it is about: an entry e in stored order, a word of block 0 or of an entry, a place in the chain of entry e, a block b.
pub data Rule : Type 0 where
  size : Rule
  header : (w : ℕ) → Rule
  entry : (e w : ℕ) → Rule
  name : (e : ℕ) → Rule
  extent : (e w : ℕ) → Rule
  link : (e place : ℕ) → Rule
  loop : (e place : ℕ) → Rule
  end : (e : ℕ) → Rule
  shared : (b : ℕ) → Rule
  map : (b : ℕ) → Rule

-- the segments in a block by word 0; where that is no form, "A block is 256 words"
unfoldable pub stated_segments : ℕ → ℕ
stated_segments form = cond (eqb (segments_of form) 0) 4 (segments_of form)

-- "the image is 512n bytes": there is a word 1, and the length is the bytes of so many blocks
pub record RightSize (img : List ℕ) : Type 0 where
  pub stated : 4 ≤ length img
  pub whole : length img ≡ word_at img 1 * segment_bytes (stated_segments (word_at img 0))

-- word w of block 0
pub record RightWord (img : List ℕ) (w : ℕ) : Type 0 where
  -- "word 0 is 1;", 2 or 3
  pub form : w ≡ 0 → 0 < segments_of (word_at img 0)
  -- "word 1 is n, the blocks in all, 16 to 1024;", in form 2 to 4096
  pub blocks : w ≡ 1 → (least_blocks ≤ word_at img 1) × (word_at img 1 ≤ most_blocks_of (word_at img 0))
  -- "word 2 is c, 1 to 8;", in forms 2 and 3 to 32, and there is a body
  pub contents : w ≡ 2 → (least_contents ≤ word_at img 2) × (word_at img 2 ≤ most_contents_of (word_at img 0)) × (bodies_of (word_at img 0) (word_at img 2) < word_at img 1)
  -- "word 3 is u, 0 to 64;"
  pub uics : w ≡ 3 → uic_count img ≤ most_uics_of (word_at img 0)
  -- "then u UICs, distinct and not 0;": of two equal ones the later is wrong
  pub some : 4 ≤ w → w < 4 + uic_count img → word_at img w ≡ 0 → ⊥
  pub apart : (v : ℕ) → 4 ≤ v → v < w → w < 4 + uic_count img → word_at img v ≡ word_at img w → ⊥
  -- "the rest 0."
  pub rest : 4 + uic_count img ≤ w → word_at img w ≡ 0

-- word w, not of 6 to 8, of entry e, which is in use
pub record RightField (img : List ℕ) (e w : ℕ) (x : Entry) : Type 0 where
  -- "used entries have a legal name": word 0 is wrong where no legal name begins with it, else word 1
  pub begins : w ≡ 0 → (second : ℕ) × LegalName x.name1 second
  pub name : w ≡ 1 → LegalName x.name1 x.name2
  pub extension : w ≡ 2 → LegalExtension x.extension
  -- "a UIC of the list"
  pub uic : w ≡ 3 → Listed img x.uic
  -- "4 protect code, 0 to 255"
  pub protect : w ≡ 4 → x.protect ≤ 255
  -- "5 kind (1 contiguous, 2 linked)"
  pub kind : w ≡ 5 → (x.kind ≡ 1) ⊎ (x.kind ≡ 2)
  -- "a contiguous file's writer is 0 or 1, a linked one's 0, 2 or 3"
  pub writer : w ≡ 9
      → ((x.kind ≡ 1) × ((x.writer ≡ 0) ⊎ (x.writer ≡ 1))) ⊎ ((x.kind ≡ 2) × ((x.writer ≡ 0) ⊎ ((x.writer ≡ 2) ⊎ (x.writer ≡ 3))))
  -- "readers, plus 1 if there is a writer, are at most 62"
  pub opens : w ≡ 10 → x.readers + one (ltb 0 x.writer) ≤ 62
  -- "11 to 15 zero"
  pub rest : 11 ≤ w → entry_word img (geometry_of img) e w ≡ 0

-- "bodies are numbered above c and below n"; form 2: "Blocks 0 to c + 1 are system; bodies lie above."
abbrev pub Body : Geometry → ℕ → Type 0
Body g b = (g.bodies.0 ≤ b) × (b < g.blocks)

-- the block at a place of a chain: the first, and from each the one that its link leads to
abbrev pub chain_at : List ℕ → Entry → ℕ → ℕ
chain_at img x place = after (next_of img (geometry_of img) 2) place x.first.0

-- words 6 to 8 of a contiguous file
pub record RightExtent (g : Geometry) (w : ℕ) (x : Entry) : Type 0 where
  pub first : w ≡ 6 → Body g x.first.0
  -- "a contiguous file has length at least 1", and ends below n
  pub length : w ≡ 7 → (1 ≤ x.length) × (x.first.0 + x.length ≤ g.blocks)
  -- "and last = first + length - 1"
  pub last : w ≡ 8 → x.last.0 + 1 ≡ x.first.0 + x.length

-- words 6 and 8 of a linked file: "a linked file's chain has exactly its length and ends at its last block, and at length 0 both numbers are 0"
pub record RightChain (img : List ℕ) (w : ℕ) (x : Entry) : Type 0 where
  pub first : w ≡ 6 → 0 < x.length → Body (geometry_of img) x.first.0
  pub no_first : w ≡ 6 → x.length ≡ 0 → x.first.0 ≡ 0
  pub last : w ≡ 8 → (place : ℕ) → place + 1 ≡ x.length → chain_at img x place ≡ x.last.0
  pub no_last : w ≡ 8 → x.length ≡ 0 → x.last.0 ≡ 0

-- "system or held"
abbrev pub Taken : List ℕ → ℕ → Type 0
Taken img b = (b < (geometry_of img).bodies.0) ⊎ (0 < held img b)

-- the rule of an entry: "An empty entry is all zero.", or what is said of one in use holds of it
abbrev pub Unless : List ℕ → ℕ → (Entry → Type 0) → Type 0
Unless img e Said = Empty img (geometry_of img) e ⊎ Said (entry_of img (geometry_of img) e)

-- what each rule says of the image
abbrev pub Holds : List ℕ → Rule → Type 0
Holds img size = RightSize img
Holds img (header w) = RightWord img w
Holds img (entry e w) = Unless img e (λ x. RightField img e w x)
-- "and differ in name, extension or UIC;": no entry before it, of those in use, has its key
Holds img (name e) =
    Unless img e
    (λ x. (f : ℕ) → f < e → (Empty img (geometry_of img) f → ⊥) → SameKey (key_in (entry_of img (geometry_of img) f)) (key_in x) → ⊥)
Holds img (extent e w) = Unless img e (λ x. (x.kind ≡ 1 → RightExtent (geometry_of img) w x) × (x.kind ≡ 2 → RightChain img w x))
-- the link of the block at a place before the last leads to a body
Holds img (link e place) = Unless img e (λ x. place + 1 < x.length → Body (geometry_of img) (chain_at img x (place + 1)))
-- and to one where the chain was not yet
Holds img (loop e place) = Unless img e (λ x. place + 1 < x.length → (q : ℕ) → q ≤ place → chain_at img x q ≡ chain_at img x (place + 1) → ⊥)
-- "0 at the end"
Holds img (end e) = Unless img e (λ x. 0 < x.length → chain_at img x x.length ≡ 0)
-- "no block is held twice;"
Holds img (shared b) = held img b ≤ 1
-- 02 §7: "block b is bit b mod 16 of word b / 16, 1 if system or held, 0 otherwise and for b from n up", where the pack has a map
Holds img (map b) = HasMap (geometry_of img) → (map_bit img (geometry_of img) b ≡ 1) ↔ Taken img b
