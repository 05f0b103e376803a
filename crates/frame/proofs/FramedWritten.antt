-- Words set in an entry and in a block, and bytes put into one: what is kept, and what is read of links and entries afterwards.
use Prim.Native.Nat.{ℕ, ◌+◌, ◌*◌, ◌≤◌, ◌<◌}
use mathlib.Core.Path.{◌≡◌}
use mathlib.Core.List.{List, ◌++◌}
use mathlib.Core.Logic.{inl}
use native.Mathlib.Omega.{arith}
use native.Mathlib.Decide.{dec_lt}
use lib.ListN.{length, take, drop, replicate}
use Rattle.words.specs.Word.{set_word}
use Rattle.words.proofs.Word.{word_set_same, word_set_other}
use Rattle.pack.specs.declared.Geometry.{Geometry}
use Rattle.pack.specs.Geometry.{block_at, block_bytes, slots, entry_at}
use Rattle.pack.specs.File.{link_of}
use Rattle.pack.specs.Entry.{entry_word}
use Rattle.pack.specs.EntryWords.{set_entry_words, clear_entry}
use Rattle.pack.proofs.GeometryRoom.{block_room}
use Rattle.frame.specs.Framed.{Kept}
use Rattle.frame.specs.Framed.Within.{entry, block}
use Rattle.frame.proofs.EntrySame.{word_same}
use Rattle.frame.proofs.ChangesWritten.{replaced_other, changes_word, changes_words}

-- a word of an entry, and several in a row
pub kept_entry_word : {Named Written : ℕ → Type 0} {g : Geometry} (img : List ℕ) (x i word : ℕ) → Named x → x < slots g → i < 16
    → Kept Named Written img (set_word img (entry_at g x + i) word) g
kept_entry_word img x i word named within small = changes_word img _ word (entry x named within (omega arith, omega arith))

pub words_kept : {Named Written : ℕ → Type 0} (words img : List ℕ) (g : Geometry) (e i : ℕ) → Named e → e < slots g → i + length words ≤ 16
    → Kept Named Written img (set_entry_words img g e i words) g
words_kept words img g e i named within fits = changes_words words img g e i (λ j low high. entry e named within (omega arith, omega arith))

pub clear_kept : {Named Written : ℕ → Type 0} {g : Geometry} (img : List ℕ) (y : ℕ) → Named y → y < slots g → Kept Named Written img (clear_entry img g y) g
clear_kept {g = g} img y named within = words_kept (replicate 16 0) img g y 0 named within (omega arith)

-- the link of a block
pub kept_link : {Named Written : ℕ → Type 0} {g : Geometry} (img : List ℕ) (z word : ℕ) → Written z → g.contents < z → 0 < g.segments.0
    → Kept Named Written img (set_word img (block_at g z) word) g
kept_link img z word written above some = changes_word img _ word (block z written above (omega arith, omega arith))

-- a run behind the link leaves the link
pub replaced_link : (g : Geometry) (img put : List ℕ) (z from : ℕ) → 2 ≤ from → from + length put ≤ block_bytes g → z * block_bytes g + from + length put ≤ length img
    → link_of (take (z * block_bytes g + from) img ++ (put ++ drop (z * block_bytes g + from + length put) img)) g z ≡ link_of img g z
unfolding link_of
replaced_link g img put z from behind small fits =
    word_same img (take (z * block_bytes g + from) img ++ (put ++ drop (z * block_bytes g + from + length put) img)) (block_at g z)
    (replaced_other img put (z * block_bytes g + from) fits (2 * block_at g z) (inl (omega arith)))
    (replaced_other img put (z * block_bytes g + from) fits (2 * block_at g z + 1) (inl (omega arith)))

-- what is read behind a link
module _ (img : List ℕ) (g : Geometry) (z word : ℕ) where
  pub link_set_same : 0 < g.segments.0 → length img ≡ g.blocks * block_bytes g → z < g.blocks → link_of (set_word img (block_at g z) word) g z ≡ word
  unfolding link_of
  link_set_same some long below = word_set_same img (block_at g z) word (omega (arith, block_room g.segments.0 below))

  pub link_set_other : (b : ℕ) → 0 < g.segments.0 → (b ≡ z → ⊥) → link_of (set_word img (block_at g z) word) g b ≡ link_of img g b
  unfolding link_of
  link_set_other b some other = word_set_other img (block_at g z) (block_at g b) word (λ is. apart is (dec_lt b z))
    where
      apart : block_at g b ≡ block_at g z → Dec (b < z) → ⊥
      apart is (yes less) = omega (arith, is, block_room g.segments.0 less)
      apart is (no not) = omega (arith, is, block_room g.segments.0 {b = z} {n = b} (omega (arith, not, other)))

  pub link_set_entry : (e i : ℕ) → g.contents < z → e < slots g → i < 16 → entry_word (set_word img (block_at g z) word) g e i ≡ entry_word img g e i
  unfolding entry_word
  link_set_entry e i above within small =
      word_set_other img (block_at g z) (entry_at g e + i) word (λ is. omega (arith, is, block_room g.segments.0 above))
