-- The file of an entry gone: which words change with it, what is kept, and which bits the map then has.
use Prim.Native.Nat.{ℕ, ◌+◌, ◌*◌, ◌-◌, ◌/◌, ◌%◌, ◌^◌, ◌≤◌, ◌<◌}
use mathlib.Core.Path.{◌≡◌, refl, sym, ap, subst, ◌∙◌}
use mathlib.Core.Logic.{inr}
use mathlib.Core.List.{List}
use native.Mathlib.Omega.{arith}
use lib.ListN.{get_or}
use Rattle.pack.specs.declared.Geometry.{Geometry}
use Rattle.pack.specs.Geometry.{geometry_of, block_bytes, slots}
use Rattle.pack.specs.GeometrySized.{Sized}
use Rattle.pack.specs.File.{count}
use Rattle.pack.specs.Entry.{entry_of, blocks_at, Empty}
use Rattle.pack.specs.EntryWords.{clear_entry}
use Rattle.pack.specs.Map.{HasMap, map_bit, bits_set}
use Rattle.pack.specs.Consistent.{held, Consistent}
use Rattle.pack.specs.MapSays.{MapSays, marking}
use Rattle.pack.proofs.GeometryRoom.{block_room, sized_same}
use Rattle.pack.proofs.HeaderRules.{header_sized}
use Rattle.pack.proofs.FileCount.{count_nil}
use Rattle.pack.proofs.EntryRead.{empty_blocks}
use Rattle.pack.proofs.EntryWordsWritten.{clear_empty}
use Rattle.pack.proofs.MapSet.{bits_set_in, bits_set_out, bits_set_long}
use Rattle.pack.proofs.MapSays.{says_set}
use Rattle.pack.proofs.ConsistentHeld.{right_bodies, marking_few, consistent_says}
use Rattle.frame.specs.Framed.{ChangesOnly, InEntry, Only, Never, OnMap, MapWord, Within, Kept}
use Rattle.frame.specs.Framed.Within.{entry, block}
use Rattle.frame.specs.Framing.{Framed}
use Rattle.frame.proofs.ChangesWritten.{changes_then, changes_cleared, word_kept}
use Rattle.frame.proofs.FramedMap.{changes_bits, kept_bits}
use Rattle.frame.proofs.FramedWritten.{clear_kept}
use Rattle.frame.proofs.FramedCompose.{entry_kept}
use Rattle.frame.proofs.FramedStays.{stated_framed, entries_at, held_at, blocks_framed, says_kept, system_unheld}
use Rattle.frame.proofs.FramedHeld.{framed_one, held_has, held_one}
use Rattle.frame.proofs.Described.{consistent_emptied}
use Rattle.directory.specs.Delet.{deleted}

-- the words of the entry, and those of the map that have the bits of its blocks
pub deleted_changes : {May : ℕ → Type 0} (img : List ℕ) (g : Geometry) (e : ℕ) → ((w : ℕ) → InEntry g e w → May w)
    → ((z w : ℕ) → 0 < count z (blocks_at img g e) → MapWord g z w → May w) → ChangesOnly May img (deleted img g e)
unfolding deleted
deleted_changes img g e own bits =
    changes_then (changes_bits (blocks_at img g e) img g 0 (λ z some there. bits z _ some (there, refl)))
    (changes_cleared _ g e (λ j small. own _ (omega arith, omega arith)))

-- the code writes the bits first, and then the entry
pub deleted_by : (img : List ℕ) (g : Geometry) (e : ℕ) {mid img' : List ℕ} → mid ≡ bits_set img g (blocks_at img g e) 0 → img' ≡ clear_entry mid g e → img' ≡ deleted img g e
unfolding deleted
deleted_by img g e bits written = written ∙ ap (λ (i : List ℕ). clear_entry i g e) bits

module _ {img : List ℕ} {g : Geometry} (stated : g ≡ geometry_of img) (right : Consistent img) (e : ℕ) (inside : e < slots g) where
  sized : Sized img g
  sized = subst (Sized img) (sym stated) (header_sized img right.header)

  pub deleted_bodies : (z : ℕ) → 0 < count z (blocks_at img g e) → (g.bodies.0 ≤ z) × (z < g.blocks)
  deleted_bodies z some = right_bodies img g e z (entries_at img g stated right e inside) some

  below : (z : ℕ) → 0 < count z (blocks_at img g e) → z < g.blocks
  below z some = (deleted_bodies z some).1

  abbrev unmarked : List ℕ
  unmarked = bits_set img g (blocks_at img g e) 0

  pub deleted_kept : Kept (Only e) (OnMap g) img (deleted img g e) g
  unfolding deleted
  deleted_kept = changes_then (kept_bits sized (λ z on. on) (blocks_at img g e) 0 below) (clear_kept unmarked e refl inside)

  -- the map's block is the system's, and so nobody's
  pub deleted_framed : Framed (Only e) (OnMap g) img (deleted img g e) g
  deleted_framed = framed_one stated right deleted_kept inside (λ b on. inr (system_unheld img g stated right b (omega (arith, on.0, on.1))))

  pub deleted_stated : g ≡ geometry_of (deleted img g e)
  deleted_stated = stated_framed stated right deleted_framed

  pub deleted_empty : Empty (deleted img g e) g e
  unfolding deleted
  deleted_empty = clear_empty g e unmarked (sized_same sized (bits_set_long (blocks_at img g e) img g 0)) inside

  pub deleted_none : (b : ℕ) → count b (blocks_at (deleted img g e) g e) ≡ 0
  deleted_none b = ap (count b) (empty_blocks (deleted img g e) g e deleted_empty) ∙ count_nil b

  -- another entry, and its blocks
  pub deleted_entry : (i : ℕ) → i < slots g → (i ≡ e → ⊥) → entry_of (deleted img g e) g i ≡ entry_of img g i
  deleted_entry i within other = entry_kept deleted_kept i within other

  pub deleted_blocks : (i : ℕ) → i < slots g → (i ≡ e → ⊥) → blocks_at (deleted img g e) g i ≡ blocks_at img g i
  deleted_blocks i within other = blocks_framed stated right deleted_framed i within other

  -- the blocks of the file are given up
  pub deleted_held : (b : ℕ) → held img b ≡ held (deleted img g e) b + count b (blocks_at img g e)
  deleted_held b = omega (arith, deleted_none b, held_one stated right deleted_framed inside b)

  -- no byte of a body
  pub deleted_bytes : (k : ℕ) → g.bodies.0 * block_bytes g ≤ k → get_or (deleted img g e) k 0 ≡ get_or img k 0
  deleted_bytes k body = deleted_kept.bytes k outside
    where
      outside : Within (Only e) (OnMap g) g (k / 2) → ⊥
      outside (entry i named within at) = omega (arith, at.1, body, within, block_room g.segments.0 sized.contents)
      outside (block b on above at) =
          let own : b < g.bodies.0 = omega (arith, on.0, on.1) in
          omega (arith, at.1, body, block_room g.segments.0 own)

  -- the map: the words of an entry are none of it
  same_bit : (b : ℕ) → map_bit (deleted img g e) g b ≡ map_bit unmarked g b
  unfolding deleted map_bit
  same_bit b =
      ap (λ (word : ℕ). (word / 2 ^ (b % 16)) % 2)
      (word_kept (changes_cleared {May = InEntry g e} unmarked g e (λ j small. (omega arith, omega arith))) _
      (λ at. omega (arith, at.1, inside)))

  pub deleted_bit : HasMap g → (b : ℕ) → 0 < count b (blocks_at img g e) → map_bit (deleted img g e) g b ≡ 0
  deleted_bit there b some = same_bit b ∙ bits_set_in 0 (omega arith) (blocks_at img g e) img sized below there b some

  pub other_bit : (b : ℕ) → count b (blocks_at img g e) ≡ 0 → map_bit (deleted img g e) g b ≡ map_bit img g b
  other_bit b none = same_bit b ∙ bits_set_out 0 (omega arith) (blocks_at img g e) img sized below b none

  -- how often a block is marked without the file
  abbrev left : ℕ → ℕ
  left b = marking img g b - count b (blocks_at img g e)

  marked_once : (b : ℕ) → marking img g b ≤ 1
  marked_once = marking_few img g (entries_at img g stated right) (λ b. omega (arith, right.once b, held_at img g b stated))

  marked_own : (b : ℕ) → count b (blocks_at img g e) ≤ marking img g b
  unfolding marking
  marked_own b = omega (arith, held_has img g b e stated inside, held_at img g b stated)

  deleted_says : MapSays (deleted img g e) g left
  unfolding deleted
  deleted_says =
      says_kept (clear_kept {Named = Only e} {Written = Never} unmarked e refl inside) (λ b never. absurd never)
      (says_set 0 (omega arith) sized (consistent_says img g stated right) (blocks_at img g e) below
      (λ b some. omega (arith, some, marked_once b)) (λ b none. omega (arith, none)))

  pub deleted_consistent : Consistent (deleted img g e)
  deleted_consistent =
      consistent_emptied stated right deleted_framed inside deleted_empty deleted_says (λ b. omega (arith, marked_own b))
