-- A run of free blocks taken one after another: so far they are cleared and marked, and the next is still free.
use Prim.Native.Nat.{ℕ, ◌+◌, ◌-◌, ◌≤◌, ◌<◌}
use mathlib.Core.Path.{◌≡◌, refl, sym, ap, subst, ◌∙◌}
use mathlib.Core.List.{List}
use native.Mathlib.Omega.{arith}
use native.Mathlib.Numerals.{add-one}
use lib.ListN.{length, get_or, set}
use Rattle.pack.specs.declared.Geometry.{Geometry}
use Rattle.pack.specs.GeometrySized.{Sized}
use Rattle.pack.proofs.GeometryRoom.{sized_same}
use Rattle.room.specs.Room.{InRun}
use Rattle.room.specs.RoomMap.{FreeOn, marked_from}
use Rattle.room.proofs.RoomMapMarked.{marked_long, marked_else}
use Rattle.room.specs.Cleared.{cleared, ClearedBlocks}
use Rattle.room.proofs.Cleared.{blocks_room, cleared_blocks, cleared_none, cleared_single, cleared_then, taken_cleared}

marked_none : (map : List ℕ) (b : ℕ) → marked_from map b 0 ≡ map
unfolding marked_from
marked_none map b = refl

marked_one : (map : List ℕ) (b k : ℕ) → marked_from map b (k + 1) ≡ set (marked_from map b k) (b + k) 1
unfolding marked_from
marked_one map b k = ap (marked_from map b) (add-one k)

-- the blocks of a run before one are taken
pub record Taking (img₀ map₀ : List ℕ) (g : Geometry) (start count : ℕ) (img map : List ℕ) (at : ℕ) : Type 0 where
  pub from : start ≤ at
  pub most : at ≤ start + count
  pub image : img ≡ cleared img₀ g start (at - start)
  pub marks : map ≡ marked_from map₀ start (at - start)

module _ {img₀ : List ℕ} {g : Geometry} (start count : ℕ) (sized : Sized img₀ g) (below : start + count ≤ g.blocks) where
  so_far : (taken : ℕ) → taken ≤ count → ClearedBlocks img₀ (cleared img₀ g start taken) g start taken
  so_far taken most = cleared_blocks (blocks_room sized start taken (omega (arith, most, below)))

  pub taking_start : {map₀ : List ℕ} → Taking img₀ map₀ g start count img₀ map₀ start
  taking_start {map₀} =
      let none : 0 ≡ start - start = omega arith in
      record {
        from = omega arith;
        most = omega arith;
        image = cleared_single cleared_none (so_far 0 (omega arith)) ∙ ap (cleared img₀ g start) none;
        marks = sym (marked_none map₀ start) ∙ ap (marked_from map₀ start) none;
      }

  module _ {map₀ img map : List ℕ} {at : ℕ} (t : Taking img₀ map₀ g start count img map at) where
    taking_sized : Sized img g
    taking_sized = sized_same sized (ap length t.image ∙ (so_far (at - start) (omega (arith, t.most))).long)

    next_is : start + (at - start) ≡ at
    next_is = omega (arith, t.from)

    module _ (more : at < start + count) where
      pub taking_next : {img' map' : List ℕ} → img' ≡ cleared img g at 1 → map' ≡ set map at 1 → Taking img₀ map₀ g start count img' map' (at + 1)
      taking_next {img'} {map'} clear mark =
          let one : at - start + 1 ≡ at + 1 - start = omega (arith, t.from) in
          record {
            from = omega (arith, t.from);
            most = omega (arith, more);
            image =
                cleared_single
                (cleared_then (subst (λ (i : List ℕ). ClearedBlocks img₀ i g start (at - start)) (sym t.image) (so_far (at - start) (omega (arith, t.most))))
                (taken_cleared taking_sized (omega (arith, next_is, more, below)) (clear ∙ ap (λ (z : ℕ). cleared img g z 1) (sym next_is))))
                (so_far (at - start + 1) (omega (arith, t.from, more)))
                ∙ ap (cleared img₀ g start) one;
            marks =
                mark
                ∙ (ap (λ (z : ℕ). set map z 1) (sym next_is)
                ∙ (ap (λ (m : List ℕ). set m (start + (at - start)) 1) t.marks ∙ (sym (marked_one map₀ start (at - start)) ∙ ap (marked_from map₀ start) one)));
          }

      -- what the taking of it asks
      pub taking_ready : ((z : ℕ) → InRun start count z → FreeOn map₀ g z) → g.blocks ≤ length map₀ → Sized img g × ((g.blocks ≤ length map) × FreeOn map g at)
      taking_ready free long =
          let f = free at (t.from, more) in (
            taking_sized,
            (
              omega (arith, long, ap length t.marks, marked_long map₀ start (at - start)),
              record {
                body = f.body;
                below = f.below;
                nobody = ap (λ (m : List ℕ). get_or m at 0) t.marks ∙ (marked_else map₀ start (at - start) at (λ run. omega (arith, run.1, next_is)) ∙ f.nobody);
              },
            ),
          )

    -- behind the run all of it is taken
    pub taking_end : start + count ≤ at → (img ≡ cleared img₀ g start count) × (map ≡ marked_from map₀ start count)
    taking_end over =
        let whole : at - start ≡ count = omega (arith, over, t.from, t.most) in
        (t.image ∙ ap (cleared img₀ g start) whole, t.marks ∙ ap (marked_from map₀ start) whole)
