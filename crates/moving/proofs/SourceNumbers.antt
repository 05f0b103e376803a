-- The numbers of blocks in a source: each is 0 or that of a body, and no block of the system is held.
use Prim.Native.Nat.{ℕ, ◌+◌, ◌≤◌, ◌<◌}
use mathlib.Core.Path.{◌≡◌, refl, sym, ap, subst, ◌∙◌}
use mathlib.Core.List.{List}
use mathlib.Core.Logic.{◌⊎◌, inl, inr}
use native.Mathlib.Omega.{arith}
use native.Mathlib.Decide.{dec_lt}
use Rattle.pack.specs.declared.Geometry.{Geometry}
use Rattle.pack.specs.Geometry.{geometry_of, slots}
use Rattle.pack.specs.File.{link_of, next_of, chain, after, last_of, blocks_of, count}
use Rattle.pack.specs.Entry.{entry_of, blocks_at, Empty, Contiguous, Linked, RightEntry}
use Rattle.pack.specs.Consistent.{held_in}
use Rattle.pack.proofs.FileChain.{next_contiguous}
use Rattle.pack.proofs.ConsistentHeld.{right_bodies, system_free as none_held}
use Rattle.frame.proofs.FileChainWays.{next_linked, first_in, after_none, last_none, last_in_law, extent_inside}
use Rattle.frame.proofs.FramedStays.{entries_at}
use Rattle.moving.specs.declared.Way.{Way}
use Rattle.moving.specs.Ways.{to_form, moved, renumbered}
use Rattle.moving.specs.Moved.{OfLinked}
use Rattle.moving.specs.Moving.{Movable}
use Rattle.moving.proofs.ChainMapped.{next_walked}
use Rattle.moving.proofs.MovedMeasures.{bodies_high, source_blocks}
use Rattle.moving.proofs.WayNumbers.{moved_less, renumbered_none, renumbered_some}
use Rattle.pack.proofs.FormBounds.{blocks_most}

empty_first : (img : List ℕ) (g : Geometry) (e : ℕ) → Empty img g e → (entry_of img g e).first.0 ≡ 0
unfolding entry_of
empty_first img g e empty = empty.zero 6 (omega arith)

empty_last : (img : List ℕ) (g : Geometry) (e : ℕ) → Empty img g e → (entry_of img g e).last.0 ≡ 0
unfolding entry_of
empty_last img g e empty = empty.zero 8 (omega arith)

empty_kind : (img : List ℕ) (g : Geometry) (e : ℕ) → Empty img g e → (entry_of img g e).kind ≡ 0
unfolding entry_of
empty_kind img g e empty = empty.zero 5 (omega arith)

-- 0, or a block above block 1
abbrev pub Number : Geometry → ℕ → Type 0
Number g n = (n ≡ 0) ⊎ ((1 < n) × (n < g.blocks))

pub number_high : {n blocks : ℕ} → (n ≡ 0) ⊎ ((1 < n) × (n < blocks)) → (n ≡ 0) ⊎ (1 < n)
number_high (inl none) = inl none
number_high (inr range) = inr range.0

module _ {way : Way} {src : List ℕ} {g : Geometry} (stated : g ≡ geometry_of src) (movable : Movable way src) where
  high : 1 < g.bodies.0
  high = bodies_high stated movable

  pub right_source : (e : ℕ) → e < slots g → RightEntry src g e
  right_source = entries_at src g stated movable.source.consistent

  -- numbers of blocks in an entry and in a link are 0 or numbers of bodies
  module _ (e : ℕ) (within : e < slots g) where
    pub body : (b : ℕ) → 0 < count b (blocks_at src g e) → (1 < b) × (b < g.blocks)
    body b some = let range = right_bodies src g e b (right_source e within) some in (omega (arith, high, range.0), range.1)

    none_first : RightEntry src g e → (0 < (entry_of src g e).length → ⊥) → (entry_of src g e).first.0 ≡ 0
    none_first (inl empty) none = empty_first src g e empty
    none_first (inr used) none = by used.kind
      where
        by : Contiguous (entry_of src g e) ⊎ Linked src g (entry_of src g e) → (entry_of src g e).first.0 ≡ 0
        by (inl contiguous) = absurd (none (omega (arith, contiguous.length)))
        by (inr linked) =
            let zero : (entry_of src g e).length ≡ 0 = omega (arith, none) in
            sym (after_none (next_of src g 2) (entry_of src g e).length (entry_of src g e).first.0 zero) ∙ linked.end

    pub first_number : Number g (entry_of src g e).first.0
    unfolding blocks_of
    first_number =
        elim (dec_lt 0 (entry_of src g e).length) [
          | yes some ↦ inr (body (entry_of src g e).first.0 (first_in _ _ _ some))
          | no none ↦ inl (none_first (right_source e within) none)
        ]

    last_of_law : (kind : ℕ) → (entry_of src g e).kind ≡ kind → 0 < (entry_of src g e).length
        → last_of (next_of src g kind) 0 (entry_of src g e).length (entry_of src g e).first.0 ≡ (entry_of src g e).last.0 → (1 < (entry_of src g e).last.0) ×
        ((entry_of src g e).last.0 < g.blocks)
    unfolding blocks_of
    last_of_law kind is some last =
        body (entry_of src g e).last.0
        (subst (λ (k : ℕ). 0 < count (entry_of src g e).last.0 (chain (next_of src g k) (entry_of src g e).length (entry_of src g e).first.0)) (sym is)
        (last_in_law (next_of src g kind) 0 _ _ _ some last))

    extent_has : (kind : ℕ) → kind ≡ 1 → 1 ≤ (entry_of src g e).length → (entry_of src g e).last.0 + 1 ≡ (entry_of src g e).first.0 + (entry_of src g e).length
        → 0 < count (entry_of src g e).last.0 (chain (next_of src g kind) (entry_of src g e).length (entry_of src g e).first.0)
    extent_has kind is some last =
        omega
        (arith, extent_inside (next_of src g kind) (λ x. next_contiguous src g kind x is) (entry_of src g e).last.0 (entry_of src g e).length (entry_of src g e).first.0 (omega arith) (omega arith))

    pub last_number : Number g (entry_of src g e).last.0
    unfolding blocks_of
    last_number = by (right_source e within)
      where
        linked_by : Linked src g (entry_of src g e) → Dec (0 < (entry_of src g e).length) → Number g (entry_of src g e).last.0
        linked_by linked (yes some) = inr (last_of_law 2 linked.kind some linked.last)
        linked_by linked (no none) =
            let zero : (entry_of src g e).length ≡ 0 = omega (arith, none) in
            inl (sym linked.last ∙ last_none (next_of src g 2) 0 (entry_of src g e).length (entry_of src g e).first.0 zero)

        of : Contiguous (entry_of src g e) ⊎ Linked src g (entry_of src g e) → Number g (entry_of src g e).last.0
        of (inl contiguous) =
            inr
            (body (entry_of src g e).last.0
            (extent_has (entry_of src g e).kind contiguous.kind contiguous.length contiguous.last))
        of (inr linked) = linked_by linked (dec_lt 0 (entry_of src g e).length)

        by : RightEntry src g e → Number g (entry_of src g e).last.0
        by (inl empty) = inl (empty_last src g e empty)
        by (inr used) = of used.kind

    -- a link of a linked file
    chain_number : (kind : ℕ) → (entry_of src g e).kind ≡ kind → (b : ℕ) → 0 < count b (blocks_at src g e)
        → after (next_of src g kind) (entry_of src g e).length (entry_of src g e).first.0 ≡ 0 → Number g (next_of src g kind b)
    unfolding blocks_of
    chain_number kind is b some end =
        by
        (next_walked (next_of src g kind) (entry_of src g e).length (entry_of src g e).first.0 b
        (subst (λ (k : ℕ). 0 < count b (chain (next_of src g k) (entry_of src g e).length (entry_of src g e).first.0)) is some))
      where
        by : (next_of src g kind b ≡ after (next_of src g kind) (entry_of src g e).length (entry_of src g e).first.0)
            ⊎ (0 < count (next_of src g kind b) (chain (next_of src g kind) (entry_of src g e).length (entry_of src g e).first.0))
            → Number g (next_of src g kind b)
        by (inl ends) = inl (ends ∙ end)
        by (inr more) =
            inr
            (body (next_of src g kind b)
            (subst (λ (k : ℕ). 0 < count (next_of src g kind b) (chain (next_of src g k) (entry_of src g e).length (entry_of src g e).first.0)) (sym is) more))

    linked_number : RightEntry src g e → (entry_of src g e).kind ≡ 2 → (b : ℕ) → 0 < count b (blocks_at src g e) → Number g (next_of src g 2 b)
    linked_number (inl empty) kind b some = absurd (omega (arith, kind, empty_kind src g e empty))
    linked_number (inr used) kind b some = by used.kind
      where
        by : Contiguous (entry_of src g e) ⊎ Linked src g (entry_of src g e) → Number g (next_of src g 2 b)
        by (inl contiguous) = absurd (omega (arith, kind, contiguous.kind))
        by (inr linked) = chain_number 2 kind b some linked.end

  pub link_number : (b : ℕ) → OfLinked src g b → Number g (link_of src g b)
  link_number b linked =
      subst (Number g) (next_linked src g 2 b refl)
      (linked_number linked.entry linked.within (right_source linked.entry linked.within) linked.kind b linked.has)

  pub linked_body : (b : ℕ) → OfLinked src g b → (g.bodies.0 ≤ b) × (b < g.blocks)
  linked_body b linked = right_bodies src g linked.entry b (right_source linked.entry linked.within) linked.has

  -- blocks of the system are held by nobody
  pub system_free : (b : ℕ) → b < g.bodies.0 → held_in src g b ≡ 0
  system_free = none_held src g right_source

  -- renumbered they are words
  pub blocks_small : moved way g.blocks ≤ 4096
  blocks_small = omega (arith, ap (moved way) (source_blocks stated movable), movable.blocks_most, blocks_most (to_form way))

  pub number_small : (n : ℕ) → Number g n → renumbered way n < 65536
  number_small n (inl none) = omega (arith, ap (renumbered way) none, renumbered_none way)
  number_small n (inr range) =
      omega (
        arith,
        renumbered_some way n (omega (arith, range.0)),
        moved_less way n g.blocks (omega (arith, range.0)) range.1,
        blocks_small,
      )
