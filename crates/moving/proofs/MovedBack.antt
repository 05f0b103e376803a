-- The way back: the source is what the target is moved to.
use Prim.Native.Nat.{ℕ, ◌+◌, ◌*◌, ◌≤◌, ◌<◌}
use mathlib.Core.Path.{◌≡◌, refl, sym, ap, subst, ◌∙◌}
use mathlib.Core.List.{List}
use mathlib.Core.Logic.{◌⊎◌, ◌↔◌}
use native.Mathlib.Omega.{arith}
use native.Mathlib.Decide.{dec_lt}
use lib.ListN.{get_or}
use Rattle.pack.specs.declared.Geometry.{Geometry}
use Rattle.pack.specs.declared.Entry.{Entry}
use Rattle.pack.specs.Geometry.{geometry_of, slots, block_bytes}
use Rattle.pack.specs.File.{link_of, count}
use Rattle.pack.specs.Entry.{entry_word, entry_of, blocks_at}
use Rattle.pack.specs.Map.{HasMap, map_bits, map_bit}
use Rattle.pack.specs.Consistent.{held_in, MapAgrees, Consistent}
use Rattle.moving.specs.declared.Way.{Way}
use Rattle.moving.specs.Ways.{back, moved, renumbered}
use Rattle.moving.specs.Moving.{Movable}
use Rattle.moving.specs.Moved.{moved_measures, OfLinked, Moved, Moves}
use Rattle.moving.proofs.WayNumbers.{back_back, back_most, back_less, moved_to, moved_again, moved_low, moved_some, renumbered_again}
use Rattle.moving.proofs.MovedMeasures.{bodies_high, source_sized, source_blocks, geometry_moved}
use Rattle.moving.proofs.SourceNumbers.{number_high, first_number, last_number, link_number, linked_body, system_free}
use Rattle.moving.proofs.MovedFiles.{word_there, link_there, entry_moved, count_moved, held_moved}
use Rattle.moving.proofs.MovedConsistent.{form_back}

-- the map of a consistent image, at its measures
map_at : (img : List ℕ) (g : Geometry) → g ≡ geometry_of img → Consistent img → MapAgrees img g
map_at img g stated consistent = subst (MapAgrees img) (sym stated) consistent.map

module _ {way : Way} {src dst : List ℕ} {g : Geometry} (stated : g ≡ geometry_of src) (movable : Movable way src) (m : Moved way src dst g) where
  high : 1 < g.bodies.0
  high = bodies_high stated movable

  blocks_high : 1 < g.blocks
  blocks_high = omega (arith, high, (source_sized stated movable).bodies)

  -- the measures, there and back
  pub measures_again : moved_measures (back way) (moved_measures way g) ≡ g
  measures_again =
      λ j. record {
        segments = g.segments;
        blocks = moved_again way g.blocks blocks_high j;
        contents = g.contents;
        bodies = record { 0 = moved_again way g.bodies.0 high j };
      }

  -- blocks of linked files, there and here
  pub linked_there : (b : ℕ) → 1 < b → OfLinked src g b → OfLinked dst (moved_measures way g) (moved way b)
  linked_there b low linked =
      record {
        entry = linked.entry;
        within = linked.within;
        kind = ap (λ (x : Entry). x.kind) (entry_moved stated movable m linked.entry linked.within) ∙ linked.kind;
        has =
            omega (
              arith,
              linked.has,
              count_moved stated movable m linked.entry linked.within (moved way b),
              ap (λ (z : ℕ). count z (blocks_at src g linked.entry)) (moved_again way b low),
            );
      }

  pub linked_here : (y : ℕ) → OfLinked dst (moved_measures way g) y → OfLinked src g (moved (back way) y)
  linked_here y linked =
      record {
        entry = linked.entry;
        within = linked.within;
        kind = sym (ap (λ (x : Entry). x.kind) (entry_moved stated movable m linked.entry linked.within)) ∙ linked.kind;
        has = omega (arith, linked.has, count_moved stated movable m linked.entry linked.within y);
      }

  -- "no block is held twice": held there as here
  pub held_there : (b : ℕ) → held_in dst (moved_measures way g) (moved way b) ≡ held_in src g b
  held_there b =
      held_moved stated movable m (moved way b)
      ∙ elim (dec_lt 1 b) [
        | yes some ↦ ap (held_in src g) (moved_again way b some)
        | no low ↦ system_free stated movable (moved (back way) (moved way b)) (omega (arith, high, moved_low way b (omega (arith, low)))) ∙ sym
            (system_free stated movable b (omega (arith, high, low)))
      ]

  -- the bit of a block, said of the other image
  abbrev Again : Geometry → Type 0
  Again h =
      HasMap h → (b : ℕ) → b < map_bits h → (map_bit src h b ≡ 1) ↔ ((b < h.bodies.0) ⊎ (0 < held_in dst (moved_measures way g) (moved (back (back way)) b)))

  map_again : Again (moved_measures (back way) (moved_measures way g))
  map_again = subst Again (sym measures_again) bit
    where
      bit : Again g
      bit there b within =
          subst (λ (n : ℕ). (map_bit src g b ≡ 1) ↔ ((b < g.bodies.0) ⊎ (0 < n)))
          (sym (ap (λ (w : Way). held_in dst (moved_measures way g) (moved w b)) (back_back way) ∙ held_there b))
          ((map_at src g stated movable.source.consistent).bit there b within)

  first_again : (e : ℕ) → e < slots g → entry_word src g e 6 ≡ renumbered (back way) (entry_word dst g e 6)
  unfolding entry_of
  first_again e within = sym (ap (renumbered (back way)) (m.first e within) ∙ renumbered_again way (entry_word src g e 6) (number_high (first_number stated movable e within)))

  last_again : (e : ℕ) → e < slots g → entry_word src g e 8 ≡ renumbered (back way) (entry_word dst g e 8)
  unfolding entry_of
  last_again e within = sym (ap (renumbered (back way)) (m.last e within) ∙ renumbered_again way (entry_word src g e 8) (number_high (last_number stated movable e within)))

  bytes_again : (y : ℕ) → moved way g.bodies.0 ≤ y → y < moved way g.blocks → (i : ℕ) → i < block_bytes g
      → (i < 2 → OfLinked dst (moved_measures way g) y → ⊥) → get_or src (moved (back way) y * block_bytes g + i) 0 ≡ get_or dst (y * block_bytes g + i) 0
  bytes_again y from below i small other =
      let low = back_most way g.bodies.0 y high from in
      let is = moved_to way (moved (back way) y) y (omega (arith, low, high)) refl in
      let some = moved_some way g.bodies.0 high in
      sym
      (ap (λ (z : ℕ). get_or dst (z * block_bytes g + i) 0) is
      ∙ m.bodies (moved (back way) y) low (back_less way g.blocks y (omega (arith, blocks_high)) (omega (arith, from, some)) below) i small
      (λ link linked.
      other link
      (subst (OfLinked dst (moved_measures way g)) (sym is) (linked_there (moved (back way) y) (omega (arith, low, high)) linked))))

  links_again : (y : ℕ) → OfLinked dst (moved_measures way g) y → link_of src g (moved (back way) y) ≡ renumbered (back way) (link_of dst g y)
  links_again y linked =
      let here = linked_here y linked in
      let is = moved_to way (moved (back way) y) y (omega (arith, high, (linked_body stated movable (moved (back way) y) here).0)) refl in
      sym
      (ap (λ (z : ℕ). renumbered (back way) (link_of dst g z)) is
      ∙ (ap (renumbered (back way)) (m.links (moved (back way) y) here) ∙ renumbered_again way (link_of src g (moved (back way) y))
      (number_high (link_number stated movable (moved (back way) y) here))))

  -- "The way back undoes this."
  pub moved_back : Moved (back way) dst src (moved_measures way g)
  moved_back =
      let again = moved_again way g.blocks blocks_high in
      record {
        long = (source_sized stated movable).long ∙ ap (λ (n : ℕ). n * block_bytes g) (sym again);
        form = movable.source.form ∙ form_back way;
        blocks = sym (source_blocks stated movable) ∙ sym again;
        header = λ w low below. sym (m.header w low below);
        entries = λ e within i small six eight.
            word_there way src g e i ∙ (sym (m.entries e within i small six eight) ∙ sym (word_there way dst g e i));
        first = λ e within. word_there way src g e 6 ∙ (first_again e within ∙ ap (renumbered (back way)) (sym (word_there way dst g e 6)));
        last = λ e within. word_there way src g e 8 ∙ (last_again e within ∙ ap (renumbered (back way)) (sym (word_there way dst g e 8)));
        map = map_again;
        bodies = bytes_again;
        links = λ y linked.
            link_there way src g (moved (back way) y) ∙ (links_again y linked ∙ ap (renumbered (back way)) (sym (link_there way dst g y)));
      }

-- as it is asked
pub moves_back : (way : Way) (src dst : List ℕ) → Movable way src → Moves way src dst → Moves (back way) dst src
moves_back way src dst movable m = subst (Moved (back way) dst src) (geometry_moved refl movable m) (moved_back refl movable m)
