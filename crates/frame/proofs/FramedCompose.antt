-- Changes under wider names, and what is read of what was kept.
use Prim.Native.Nat.{ℕ, ◌+◌, ◌*◌, ◌/◌, ◌≤◌, ◌<◌}
use mathlib.Core.Path.{◌≡◌, subst}
use mathlib.Core.List.{List}
use mathlib.Core.Logic.{inl, inr}
use native.Mathlib.Omega.{arith}
use native.Mathlib.Decide.{ℕ_discrete, dec_lt}
use lib.ListN.{get_or}
use Rattle.words.specs.Word.{word_at}
use Rattle.pack.specs.declared.Geometry.{Geometry}
use Rattle.pack.specs.Geometry.{block_words, block_bytes, slots, entry_at}
use Rattle.pack.specs.File.{link_of}
use Rattle.pack.specs.Entry.{entry_word, entry_of}
use Rattle.pack.proofs.GeometryRoom.{block_room}
use Rattle.frame.specs.Framing.{Either}
use Rattle.frame.specs.Framed.{InBlock, Within, Kept}
use Rattle.frame.specs.Framed.Within.{entry, block}
use Rattle.frame.proofs.EntrySame.{entry_same, link_same}
use Rattle.frame.proofs.ChangesWritten.{changes_wider, word_kept}

pub neither : {x y e : ℕ} → (e ≡ x → ⊥) → (e ≡ y → ⊥) → Either x y e → ⊥
neither not-x not-y (inl is) = not-x is
neither not-x not-y (inr is) = not-y is

pub either_decided : (x y e : ℕ) → Dec (Either x y e)
either_decided x y e = by (ℕ_discrete e x) (ℕ_discrete e y)
  where
    by : Dec (e ≡ x) → Dec (e ≡ y) → Dec (Either x y e)
    by (yes is) other = yes (inl is)
    by (no not) (yes is) = yes (inr is)
    by (no not) (no not₂) = no (neither not not₂)

-- what is kept outside of fewer entries and blocks is kept outside of more
pub kept_widen : {Named Named' Written Written' : ℕ → Type 0} {img img' : List ℕ} {g : Geometry}
    → ((e : ℕ) → Named e → Named' e) → ((b : ℕ) → Written b → Written' b) → Kept Named Written img img' g → Kept Named' Written' img img' g
kept_widen {Named} {Named'} {Written} {Written'} {g = g} names writes = changes_wider wider
  where
    wider : (w : ℕ) → Within Named Written g w → Within Named' Written' g w
    wider w (entry e named inside at) = entry e (names e named) inside at
    wider w (block b written above at) = block b (writes b written) above at

-- two blocks with a byte in common are one
pub same_block : (p b c k : ℕ) → b * p ≤ k → k < b * p + p → c * p ≤ k → k < c * p + p → c ≡ b
same_block p b c k low high low₂ high₂ = by (dec_lt b c) (dec_lt c b)
  where
    by : Dec (b < c) → Dec (c < b) → c ≡ b
    by (yes less) d = absurd (omega (arith, block_room p less))
    by (no not) (yes less) = absurd (omega (arith, block_room p less))
    by (no not) (no not₂) = omega (arith, not, not₂)

-- the header, an entry that is not named, a block behind the contents that is not written: all as before
module _ {Named Written : ℕ → Type 0} {img img' : List ℕ} {g : Geometry} (kept : Kept Named Written img img' g) where
  pub header_kept : (w : ℕ) → w < block_words g → word_at img' w ≡ word_at img w
  header_kept w low = word_kept kept w outside
    where
      outside : Within Named Written g w → ⊥
      outside (entry e named inside at) = omega (arith, low, at.0)
      outside (block b written above at) = omega (arith, low, at.0, block_room g.segments.0 above)

  pub entries_kept : (e : ℕ) → e < slots g → (Named e → ⊥) → (i : ℕ) → i < 16 → entry_word img' g e i ≡ entry_word img g e i
  unfolding entry_word
  entries_kept e within other i small = word_kept kept (entry_at g e + i) outside
    where
      outside : Within Named Written g (entry_at g e + i) → ⊥
      outside (entry f named inside at) = let is : f ≡ e = omega (arith, small, at.0, at.1) in other (subst Named is named)
      outside (block b written above at) = omega (arith, within, small, at.0, block_room g.segments.0 above)

  pub block_kept : (b : ℕ) → g.contents < b → (Written b → ⊥) → (i : ℕ) → i < block_bytes g → get_or img' (b * block_bytes g + i) 0 ≡ get_or img (b * block_bytes g + i) 0
  block_kept b behind other i small = kept.bytes (b * block_bytes g + i) outside
    where
      outside : Within Named Written g ((b * block_bytes g + i) / 2) → ⊥
      outside (entry e named inside at) = omega (arith, at.1, inside, block_room g.segments.0 behind)
      outside (block c written above at) =
          let is : c ≡ b = same_block (block_bytes g) b c (b * block_bytes g + i) (omega arith) (omega (arith, small)) (omega (arith, at.0)) (omega (arith, at.1)) in
          other (subst Written is written)

  pub block_word_kept : (b : ℕ) → g.contents < b → (Written b → ⊥) → (w : ℕ) → InBlock g b w → word_at img' w ≡ word_at img w
  block_word_kept b behind other w inside = word_kept kept w outside
    where
      outside : Within Named Written g w → ⊥
      outside (entry e named within at) = omega (arith, at.1, within, inside.0, block_room g.segments.0 behind)
      outside (block c written above at) =
          let is : c ≡ b = same_block (block_words g) b c w inside.0 inside.1 at.0 at.1 in
          other (subst Written is written)

  pub entry_kept : (e : ℕ) → e < slots g → (Named e → ⊥) → entry_of img' g e ≡ entry_of img g e
  entry_kept e within other = entry_same img img' g e (entries_kept e within other)

  pub link_kept : 0 < g.segments.0 → (b : ℕ) → g.contents < b → (Written b → ⊥) → link_of img' g b ≡ link_of img g b
  link_kept some b behind other = link_same img img' g b some (block_kept b behind other)
