-- The target as a whole: its measures while it is written, and that with the map made nothing is left to do.
use Prim.Native.Nat.{ℕ, ◌+◌, ◌≤◌, ◌<◌}
use mathlib.Core.Path.{◌≡◌, refl, sym, subst, ◌∙◌}
use mathlib.Core.List.{List}
use native.Mathlib.Omega.{arith}
use native.Mathlib.Decide.{dec_lt}
use lib.ListN.{length}
use Rattle.pack.specs.declared.Geometry.{Geometry}
use Rattle.pack.specs.Geometry.{block_words, slots}
use Rattle.pack.specs.GeometrySized.{Sized}
use Rattle.pack.specs.Map.{HasMap}
use Rattle.pack.proofs.FormBounds.{mapped_bodies}
use Rattle.consistency.specs.Walk.{system_set}
use Rattle.consistency.specs.MapTest.{mark_on, Marks}
use Rattle.moving.specs.declared.Way.{Way}
use Rattle.moving.specs.declared.Way.TheVariants.{Up, Down}
use Rattle.moving.specs.Ways.{moved}
use Rattle.moving.specs.Moved.{moved_measures, Moved, Moves}
use Rattle.moving.specs.MovedParts.{Source, Partly, AllWalked, MarkedBehind, MapWritten}
use Rattle.moving.proofs.WayNumbers.{moved_less}
use Rattle.moving.proofs.MovedMeasures.{source_four, source_bodies, source_sized, bodies_high, target_bodies}
use Rattle.moving.proofs.SourceNumbers.{blocks_small}
use Rattle.moving.proofs.MovedPartsSteps.{partly_map, partly_whole}
use Rattle.moving.proofs.MovedPartsWalked.{walked_all}
use Rattle.moving.proofs.MapWriting.{written_bit}
use Rattle.moving.proofs.MarkedBehind.{there_room, behind_bits, behind_marks}

-- form 1 has no map: the target has one on the way up alone
map_up : (way : Way) {src : List ℕ} {g : Geometry} → Source way src g → HasMap (moved_measures way g) → way ≡ Up
unfolding moved
map_up Up source there = refl
map_up Down {src} {g} source there = absurd (omega (arith, there, source_bodies source.stated source.movable, mapped_bodies g.contents))

-- where there is a map, it is written of these marks; where there is none, nothing
abbrev MapDone : List ℕ → List ℕ → List ℕ → Geometry → Type 0
MapDone places now after z =
    (HasMap z → MapWritten now after z (mark_on (system_set places z.bodies.0 1)) (block_words z)) × ((HasMap z → ⊥) → after ≡ now)

module _ {way : Way} {src : List ℕ} {g h : Geometry} (source : Source way src g) (there : h ≡ moved_measures way g) where
  high : 1 < g.bodies.0
  high = bodies_high source.stated source.movable

  room : moved way g.bodies.0 < moved way g.blocks
  room = moved_less way g.bodies.0 g.blocks (omega (arith, high)) (source_sized source.stated source.movable).bodies

  pub partly_sized : {now : List ℕ} {named : ℕ} {Done : ℕ → Type 0} → Partly way src now g named Done → Sized now h
  partly_sized {now} p =
      let sized = source_sized source.stated source.movable in
      subst (Sized now) (sym there)
      (record {
        long = p.long;
        some = sized.some;
        few = sized.few;
        contents = (target_bodies source.stated source.movable).1;
        bodies = room;
        most = blocks_small source.stated source.movable;
        map = omega (arith, source_four source.stated source.movable, blocks_small source.stated source.movable);
      })

  module _ {places : List ℕ} (behind : MarkedBehind places src) where
    pub places_enough : (h.bodies.0 ≤ length places) × (HasMap h → Marks (system_set places h.bodies.0 1) h.blocks)
    places_enough =
        subst (λ (z : Geometry). (z.bodies.0 ≤ length places) × (HasMap z → Marks (system_set places z.bodies.0 1) z.blocks)) (sym there)
        (there_room source behind, λ has. behind_marks source behind (map_up way source has))

    module _ {now after : List ℕ} (p : Partly way src now g (slots g) (AllWalked src g)) where
      by : MapDone places now after (moved_measures way g) → Dec (HasMap (moved_measures way g)) → Moved way src after g
      by made (yes has) =
          let up = map_up way source has in
          partly_whole source.stated source.movable (partly_map source.stated source.movable p has (made.0 has)) (omega arith) (λ b. walked_all src g b)
          (λ has b within. written_bit (behind_marks source behind up).few (made.0 has) b within ∙ behind_bits source behind up b)
      by made (no none) =
          subst (λ (l : List ℕ). Moved way src l g) (sym (made.1 none))
          (partly_whole source.stated source.movable p (omega arith) (λ b. walked_all src g b) (λ has. absurd (none has)))

      pub moved_whole : (HasMap h → MapWritten now after h (mark_on (system_set places h.bodies.0 1)) (block_words h)) × ((HasMap h → ⊥) → after ≡ now)
          → Moves way src after
      moved_whole made = subst (Moved way src after) source.stated (by (subst (MapDone places now after) there made) (dec_lt (g.contents + 1) (moved way g.bodies.0)))
