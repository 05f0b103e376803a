-- Means: a target that is written in part. The code copies block 0, the contents and the bodies, goes through the entries and along the chains of the linked
-- files, and makes the map last (proofs/MovedPartsSteps.antt has a law for each step).
use Rattle.std.specs.Prelude.{ℕ, ◌+◌, ◌*◌, ◌≤◌, ◌<◌, ◌≡◌, List, ltb, length, get_or}
use Rattle.words.specs.Word.{word_at}
use Rattle.pack.specs.declared.Geometry.{Geometry}
use Rattle.pack.specs.Geometry.{geometry_of, block_words, block_bytes, slots}
use Rattle.pack.specs.File.{link_of, next_of, after, one, count}
use Rattle.pack.specs.Entry.{entry_word, entry_of, blocks_at}
use Rattle.pack.specs.Map.{map_at}
use Rattle.pack.specs.GeometrySized.{most_blocks}
use Rattle.pack.specs.Consistent.{held_in, held}
use Rattle.consistency.specs.MapTest.{bits_from, mark_on}
use Rattle.moving.specs.declared.Way.{Way}
use Rattle.moving.specs.declared.Way.TheVariants.{Down}
use Rattle.moving.specs.Ways.{back, to_form, moved, renumbered}
use Rattle.moving.specs.Moving.{Movable}

-- a source that is moved, and its measures
pub record Source (way : Way) (src : List ℕ) (g : Geometry) : Type 0 where
  pub stated : g ≡ geometry_of src
  pub movable : Movable way src

-- bytes of `src` from `from` on that were laid from `to` on
pub record CopiedRun (src before after : List ℕ) (from to count : ℕ) : Type 0 where
  pub long : length after ≡ length before
  pub inside : (k : ℕ) → k < count → get_or after (to + k) 0 ≡ get_or src (from + k) 0
  pub below : (k : ℕ) → k < to → get_or after k 0 ≡ get_or before k 0
  pub above : (k : ℕ) → to + count ≤ k → get_or after k 0 ≡ get_or before k 0

-- what is copied first: block 0 and the contents where they were, and the bodies where they are to be
pub record Copied (way : Way) (src now : List ℕ) (g : Geometry) : Type 0 where
  pub long : length now ≡ moved way g.blocks * block_bytes g
  pub contents : (k : ℕ) → k < (g.contents + 1) * block_bytes g → get_or now k 0 ≡ get_or src k 0
  pub bodies : (b : ℕ) → g.bodies.0 ≤ b → b < g.blocks → (i : ℕ) → i < block_bytes g
      → get_or now (moved way b * block_bytes g + i) 0 ≡ get_or src (b * block_bytes g + i) 0

-- first and last of the entries below `named` are renumbered, and so are the links of the blocks that are done
pub record Partly (way : Way) (src now : List ℕ) (g : Geometry) (named : ℕ) (Done : ℕ → Type 0) : Type 0 where
  pub long : length now ≡ moved way g.blocks * block_bytes g
  pub form : word_at now 0 ≡ to_form way
  pub blocks : word_at now 1 ≡ moved way g.blocks
  pub header : (w : ℕ) → 2 ≤ w → w < block_words g → word_at now w ≡ word_at src w
  pub entries : (e : ℕ) → e < slots g → (i : ℕ) → i < 16 → (i ≡ 6 → ⊥) → (i ≡ 8 → ⊥) → entry_word now g e i ≡ entry_word src g e i
  pub first : (e : ℕ) → e < slots g → e < named → entry_word now g e 6 ≡ renumbered way (entry_word src g e 6)
  pub last : (e : ℕ) → e < slots g → e < named → entry_word now g e 8 ≡ renumbered way (entry_word src g e 8)
  pub bodies : (b : ℕ) → g.bodies.0 ≤ b → b < g.blocks → (i : ℕ) → i < block_bytes g → (i < 2 → Done b → ⊥)
      → get_or now (moved way b * block_bytes g + i) 0 ≡ get_or src (b * block_bytes g + i) 0
  pub links : (b : ℕ) → g.bodies.0 ≤ b → b < g.blocks → Done b → link_of now g (moved way b) ≡ renumbered way (link_of src g b)

-- the blocks that are done when the linked files of the entries below e, and p blocks of entry e, have been walked
pub data Walked (src : List ℕ) (g : Geometry) (e p b : ℕ) : Type 0 where
  before : (f : ℕ) → f < e → (entry_of src g f).kind ≡ 2 → 0 < count b (blocks_at src g f) → Walked src g e p b
  here : (entry_of src g e).kind ≡ 2 → (q : ℕ) → q < p → after (next_of src g 2) q (entry_of src g e).first.0 ≡ b → Walked src g e p b

-- all entries, and so all linked files
abbrev pub AllWalked : List ℕ → Geometry → ℕ → Type 0
AllWalked src g = Walked src g (slots g) 0

-- the bits of the target's map as numbers: block b is system there, or it is held here where it comes from
unfoldable pub marks : Way → List ℕ → Geometry → ℕ → ℕ
marks way src g b = one (ltb b (moved way g.bodies.0)) + held_in src g (moved (back way) b)

-- on the way up the check's own marks, each one place on, say it: how often the source holds the block before
pub record MarkedBehind (marks src : List ℕ) : Type 0 where
  pub whole : length marks ≡ most_blocks + 16
  pub says : (b : ℕ) → mark_on marks b ≡ held src (moved Down b)

-- the words of the map of measures h below word w are made of these bits, and nothing else is changed
pub record MapWritten (before after : List ℕ) (h : Geometry) (bit : ℕ → ℕ) (w : ℕ) : Type 0 where
  pub long : length after ≡ length before
  pub word : (v : ℕ) → v < w → word_at after (map_at h + v) ≡ bits_from bit (16 * v) 16
  pub below : (k : ℕ) → k < 2 * map_at h → get_or after k 0 ≡ get_or before k 0
  pub above : (k : ℕ) → 2 * (map_at h + w) ≤ k → get_or after k 0 ≡ get_or before k 0
