-- The search for a block's owner, step by step: over the blocks of a file that are left, over the entries that are left, and where it begins.
use Prim.Native.Nat.{ℕ, suc, ◌+◌, ◌-◌, ◌≤◌, ◌<◌}
use mathlib.Core.Path.{◌≡◌, refl, sym, ap, subst, ◌∙◌}
use mathlib.Core.List.{List}
use mathlib.Core.Option.{none, some}
use native.Mathlib.Omega.{arith}
use borrow.Author.Tests.{eq-eqb, ne_eqb, lt-ltb, le-ltb}
use Rattle.pack.specs.declared.Geometry.{Geometry}
use Rattle.pack.specs.declared.Place.{Place}
use Rattle.pack.specs.declared.Entry.{Entry}
use Rattle.pack.specs.declared.Owner.{Owner}
use Rattle.pack.specs.declared.Owner.TheVariants.{System, Free, Held}
use Rattle.pack.specs.Geometry.{geometry_of, slots}
use Rattle.pack.specs.GeometrySized.{Sized}
use Rattle.pack.specs.File.{next_of, chain, blocks_of, count}
use Rattle.pack.specs.Entry.{entry_of, blocks_at}
use Rattle.pack.specs.Consistent.{Consistent}
use Rattle.pack.specs.Owner.{place_from, held_or, holder, owner_of}
use Rattle.pack.proofs.HeaderRules.{header_sized}
use Rattle.pack.proofs.FileCount.{count_same, count_split}
use Rattle.std.specs.Prelude.{Some, None}
use Rattle.std.specs.declared.option.Option.{Option as Answered}
use Rattle.owners.specs.Seen.{seen_in}
use Rattle.owners.proofs.EntryBlocks.{reaches_bodies}

-- The blocks of a file from place p, block `at`, on: they decide where block b is seen, and all are blocks of the pack.
pub record Left (img : List ℕ) (g : Geometry) (kind end first b p at : ℕ) : Type 0 where
  pub decides : place_from b 0 (chain (next_of img g kind) end first) ≡ place_from b p (chain (next_of img g kind) (end - p) at)
  pub inside : (z : ℕ) → 0 < count z (chain (next_of img g kind) (end - p) at) → z < g.blocks

pub left_start : (img : List ℕ) (g : Geometry) (x : Entry) (b : ℕ) → ((z : ℕ) → 0 < count z (blocks_of img g x) → z < g.blocks)
    → Left img g x.kind x.length x.first.0 b 0 x.first.0
unfolding blocks_of
left_start img g x b below =
    let whole : x.length ≡ x.length - 0 = omega arith in
    record {
      decides = ap (λ (k : ℕ). place_from b 0 (chain (next_of img g x.kind) k x.first.0)) whole;
      inside = subst (λ (k : ℕ). (z : ℕ) → 0 < count z (chain (next_of img g x.kind) k x.first.0) → z < g.blocks) whole below;
    }

module _ {img : List ℕ} {g : Geometry} {kind end first b p at : ℕ} (left : Left img g kind end first b p at) where
  more : p < end → end - p ≡ suc (end - (p + 1))
  more before = omega arith

  pub left_block : p < end → at < g.blocks
  unfolding chain
  left_block before =
      let here : 0 < count at (chain (next_of img g kind) (end - p) at) = rw (more before)
      (omega (arith, count_same at at (chain (next_of img g kind) (end - (p + 1)) (next_of img g kind at)) refl)) in
      left.inside at here

  pub left_here : p < end → b ≡ at → some p ≡ place_from b 0 (chain (next_of img g kind) end first)
  unfolding chain
  left_here before is = sym (left.decides ∙ rw (more before, eq-eqb b at is))

  pub left_next : p < end → (b ≡ at → ⊥) → (behind : ℕ) → behind ≡ next_of img g kind at → Left img g kind end first b (p + 1) behind
  unfolding chain
  left_next before other behind is =
      record {
        decides = left.decides ∙ rw (more before, ne_eqb b at other, is);
        inside = λ z some. left.inside z (rw (more before) (omega (
          arith,
          some,
          count_split z at (chain (next_of img g kind) (end - (p + 1)) (next_of img g kind at)),
          ap (λ (y : ℕ). count z (chain (next_of img g kind) (end - (p + 1)) y)) is,
        )));
      }

  pub left_end : end ≤ p → none ≡ place_from b 0 (chain (next_of img g kind) end first)
  unfolding chain
  left_end over = let nothing : end - p ≡ 0 = omega arith in sym (left.decides ∙ rw nothing)

-- an image under its own measures
module _ {img : List ℕ} {g : Geometry} (right : Consistent img) (measures : geometry_of img ≡ g) where
  pub measured_sized : Sized img g
  measured_sized = subst (Sized img) measures (header_sized img right.header)

  -- the blocks of an entry's file are blocks of the pack
  pub measured_blocks : (e : ℕ) → e < slots g → (x : Entry) → x ≡ entry_of img g e → (z : ℕ) → 0 < count z (blocks_of img g x) → z < g.blocks
  measured_blocks e inside x is z reached =
      let there : 0 < count z (blocks_at img g e) = subst (λ (y : Entry). 0 < count z (blocks_of img g y)) is reached in
      below measures e inside there
    where
      below : {h : Geometry} → geometry_of img ≡ h → (e : ℕ) → e < slots h → 0 < count z (blocks_at img h e) → z < h.blocks
      below same e inside reached =
          subst (λ (h : Geometry). e < slots h → 0 < count z (blocks_at img h e) → z < h.blocks) same
          (λ at some. (reaches_bodies z e right at some).1) inside reached

-- what entry e says, or that the entries behind it decide
module _
    (img : List ℕ)
    (g : Geometry)
    (b e end : ℕ)
    (before : e < end)
    (x : Entry)
    (is : x ≡ entry_of img g e)
    (r : Answered Place)
    (seen : seen_in r ≡ place_from b 0 (blocks_of img g x)) where
  entries_left : end - e ≡ suc (end - (e + 1))
  entries_left = omega arith

  found : place_from b 0 (blocks_at img g e) ≡ seen_in r
  found = ap (λ (y : Entry). place_from b 0 (blocks_of img g y)) (sym is) ∙ sym seen

  pub holder_here : (place : Place) → r ≡ Some place → holder img g b e (end - e) ≡ Held e place
  unfolding holder
  holder_here place at =
      ap (holder img g b e) entries_left
      ∙ ap (held_or e (holder img g b (e + 1) (end - (e + 1)))) (found ∙ ap seen_in at)

  pub holder_next : r ≡ None → holder img g b e (end - e) ≡ holder img g b (e + 1) (end - (e + 1))
  unfolding holder
  holder_next nothing =
      ap (holder img g b e) entries_left
      ∙ ap (held_or e (holder img g b (e + 1) (end - (e + 1)))) (found ∙ ap seen_in nothing)

pub holder_end : (img : List ℕ) (g : Geometry) (b e end : ℕ) → end ≤ e → holder img g b e (end - e) ≡ Free
unfolding holder
holder_end img g b e end over = let nothing : end - e ≡ 0 = omega arith in ap (holder img g b e) nothing

-- the owner, by the measures that the image states
module _ (img : List ℕ) (g : Geometry) (measures : geometry_of img ≡ g) (b : ℕ) where
  pub owner_below : b < g.bodies.0 → System ≡ owner_of img b
  unfolding owner_of
  owner_below below =
      let low : b < (geometry_of img).bodies.0 = omega (arith, ap (λ (h : Geometry). h.bodies.0) measures) in
      rw (lt-ltb b (geometry_of img).bodies.0 low)

  pub owner_behind : g.bodies.0 ≤ b → (o : Owner) → o ≡ holder img g b 0 (slots g) → o ≡ owner_of img b
  unfolding owner_of
  owner_behind body o is =
      let high : (geometry_of img).bodies.0 ≤ b = omega (arith, ap (λ (h : Geometry). h.bodies.0) measures) in
      rw (le-ltb b (geometry_of img).bodies.0 high) (is ∙ ap (λ (h : Geometry). holder img h b 0 (slots h)) (sym measures))
