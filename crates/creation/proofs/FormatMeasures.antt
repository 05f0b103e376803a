-- What the measures of a formattable image leave room for: the system's bytes in the image, the header in them, and each number in a word.
use Prim.Native.Nat.{ℕ, ◌+◌, ◌*◌, ◌≤◌, ◌<◌}
use mathlib.Core.Path.{◌≡◌, sym, subst, ◌∙◌}
use mathlib.Core.List.{List}
use native.Mathlib.Omega.{arith}
use lib.ListN.{length}
use Rattle.pack.specs.declared.Geometry.{Geometry}
use Rattle.pack.specs.declared.Segments.{Segments}
use Rattle.pack.specs.declared.BlockNo.{BlockNo}
use Rattle.pack.specs.GeometrySized.{Sized}
use Rattle.pack.specs.Form.{segments_of, bodies_of}
use Rattle.pack.specs.Geometry.{segment_bytes}
use Rattle.pack.specs.Map.{bits_set}
use Rattle.pack.proofs.FormBounds.{segments_few, blocks_most, contents_before, uics_fit, map_fits}
use Rattle.pack.proofs.GeometryRoom.{block_room}
use Rattle.room.specs.Room.{run_from}
use Rattle.creation.specs.Formattable.{uics_in, Formattable}
use Rattle.creation.specs.Format.{system_bytes, measures_of}

module _ {long form blocks contents : ℕ} {uics : List ℕ} (f : Formattable long form blocks contents uics) where
  pub system_room : system_bytes form contents ≤ long
  system_room = omega (arith, f.measured.size, block_room (segments_of form) f.measured.room)

  pub uics_whole : length uics ≡ 2 * uics_in uics
  uics_whole = omega (arith, f.whole)

  pub header_room : 8 + length uics ≤ segment_bytes (segments_of form)
  header_room = omega (arith, uics_whole, uics_fit form (uics_in uics) f.measured.known f.measured.uics_most)

  pub header_inside : 8 + length uics ≤ system_bytes form contents
  header_inside = omega (arith, header_room, f.measured.known, block_room (segments_of form) (contents_before form contents))

  pub blocks_small : blocks < 65536
  blocks_small = omega (arith, f.measured.blocks_most, blocks_most form)

  pub contents_small : contents < 65536
  contents_small = omega (arith, contents_before form contents, f.measured.room, blocks_small)

  pub uics_small : uics_in uics < 65536
  uics_small = omega (arith, uics_whole, header_room, segments_few form)

  pub header_long : 8 + length uics ≤ long
  header_long = omega (arith, header_inside, system_room)

  -- an image so long has room for all that a pack of these measures has
  pub measures_sized : {img : List ℕ} → length img ≡ long → Sized img (measures_of form blocks contents)
  measures_sized same =
      record {
        long = same ∙ f.measured.size;
        some = f.measured.known;
        few = segments_few form;
        contents = contents_before form contents;
        bodies = f.measured.room;
        most = omega (arith, f.measured.blocks_most, blocks_most form);
        map = omega (arith, f.measured.blocks_most, map_fits form f.measured.known);
      }

-- the measures, from the numbers as they were read: the blocks before the bodies are marked as they are to be
module _ {segments : Segments} {bodies : BlockNo} (form blocks contents : ℕ) (per : segments.0 ≡ segments_of form) (first : bodies.0 ≡ bodies_of form contents) where
  abbrev read : Geometry
  read = record { segments = segments; blocks = blocks; contents = contents; bodies = bodies }

  measures_are : read ≡ measures_of form blocks contents
  measures_are = λ i. record { segments = record { 0 = per i }; blocks = blocks; contents = contents; bodies = record { 0 = first i } }

  pub system_marked : (img : List ℕ) {img' : List ℕ} → img' ≡ bits_set img read (run_from 0 bodies.0) 1
      → img' ≡ bits_set img (measures_of form blocks contents) (run_from 0 (bodies_of form contents)) 1
  system_marked img marks = marks ∙ (λ i. bits_set img (measures_are i) (run_from 0 (first i)) 1)

-- another list as long is formattable alike
pub same_long : {long long' form blocks contents : ℕ} {uics : List ℕ} → Formattable long form blocks contents uics → long' ≡ long
    → Formattable long' form blocks contents uics
same_long {long} {long'} {form} {blocks} {contents} {uics} f is = subst (λ (n : ℕ). Formattable n form blocks contents uics) (sym is) f
