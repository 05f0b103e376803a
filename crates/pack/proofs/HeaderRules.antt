-- What a right header gives to every reader: the measures, a least length, and room for the list of UICs.
use Prim.Native.Nat.{ℕ, ◌+◌, ◌*◌, ◌≤◌}
use mathlib.Core.List.{List}
use native.Mathlib.Omega.{arith}
use native.Mathlib.Nat.{mul-le-mul, mul-le-mul_right}
use lib.ListN.{length}
use Rattle.words.specs.Word.{word_at}
use Rattle.pack.specs.GeometrySized.{most_contents, Sized, most_entries}
use Rattle.pack.specs.Form.{segments_of, least_blocks}
use Rattle.pack.specs.Geometry.{geometry_of, slots}
use Rattle.pack.specs.Header.{uic_count, RightHeader}
use Rattle.pack.proofs.FormBounds.{segments_few, blocks_most, contents_most, contents_before, uics_fit, map_fits}

-- what a right header gives
pub header_sized : (img : List ℕ) → RightHeader img → Sized img (geometry_of img)
unfolding geometry_of
header_sized img h =
    record {
      long = h.measured.size;
      some = h.measured.known;
      few = segments_few (word_at img 0);
      contents = contents_before (word_at img 0) (word_at img 2);
      bodies = h.measured.room;
      most = omega (arith, h.measured.blocks_most, blocks_most (word_at img 0));
      map = omega (arith, h.measured.blocks_most, map_fits (word_at img 0) h.measured.known);
    }

-- its entries are at most those of any form
pub entries_few : (img : List ℕ) → RightHeader img → slots (geometry_of img) ≤ most_entries
unfolding geometry_of
entries_few img h =
    let contents : word_at img 2 ≤ most_contents = omega (arith, h.measured.contents_most, contents_most (word_at img 0)) in
    omega (arith, mul-le-mul contents (segments_few (word_at img 0)))

pub header_long : (img : List ℕ) → RightHeader img → 128 * least_blocks ≤ length img
unfolding geometry_of
header_long img h =
    omega (arith, h.measured.size, mul-le-mul h.measured.blocks_least h.measured.known)

-- the list of UICs stands in the image
pub uics_room : (img : List ℕ) → RightHeader img → 2 * (4 + uic_count img) ≤ length img
unfolding geometry_of
uics_room img h =
    omega (arith, h.measured.size, uics_fit (word_at img 0) (uic_count img) h.measured.known h.measured.uics_most, mul-le-mul_right (segments_of (word_at img 0)) h.measured.blocks_least)
