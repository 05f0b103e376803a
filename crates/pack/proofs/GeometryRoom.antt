-- What the measures of a pack bound: its words and entries are few enough to count, and each stands in the image.
use Prim.Native.Nat.{ℕ, ◌+◌, ◌*◌, ◌≤◌, ◌<◌}
use native.Mathlib.Omega.{arith}
use native.Mathlib.Nat.{mul-le-mul_right, mul-le-mul_left, mul-le-mul}
use mathlib.Core.List.{List}
use mathlib.Core.Path.{◌≡◌, ◌∙◌}
use lib.ListN.{length}
use Rattle.pack.specs.declared.Geometry.{Geometry}
use Rattle.pack.specs.Geometry.{segment_bytes, block_words, slots, entry_at, block_at}
use Rattle.pack.specs.GeometrySized.{Sized, most_blocks, most_segments}

-- the words of a block below n stand among those of n blocks: the one law of products that the rest needs
pub block_room : (p : ℕ) {b n : ℕ} → b < n → b * p + p ≤ n * p
block_room p {b} {n} h = omega (arith, mul-le-mul_right p h)

-- the words of a pack are few enough to count
pub few_words : {n p : ℕ} → n ≤ most_blocks → p ≤ most_segments → n * p ≤ most_blocks * most_segments
few_words a b = mul-le-mul a b

pub few_bytes : {n p bytes : ℕ} → n ≤ most_blocks → p ≤ most_segments → bytes ≡ segment_bytes p → n * bytes ≤ most_blocks * segment_bytes most_segments
few_bytes {n} {p} {bytes} a b is = let most : bytes ≤ segment_bytes most_segments = omega (arith, b) in mul-le-mul a most

-- the entries are few enough to count
pub slots_few : (g : Geometry) → g.contents ≤ most_blocks → g.segments.0 ≤ most_segments → slots g ≤ most_blocks * (4 * most_segments)
slots_few g contents segments = mul-le-mul contents (mul-le-mul_left 4 segments)

-- a number of entries that was counted
pub below_count : {e total count : ℕ} → total ≡ count → e < total → e < count
below_count is below = omega arith

pub past_count : {e total count : ℕ} → total ≡ count → total ≤ e → count ≤ e
past_count is past = omega arith

-- each word of an entry, and the link of each block, stand in the image
module _ {img : List ℕ} {g : Geometry} (s : Sized img g) where
  pub sized_few : (g.contents ≤ most_blocks) × (g.segments.0 ≤ most_segments)
  sized_few = (omega (arith, s.contents, s.bodies, s.most), s.few)

  pub entry_room : (e i : ℕ) → e < slots g → i < 16 → 2 * (entry_at g e + i) + 1 < length img
  entry_room e i inside small =
      let below : g.contents < g.blocks = omega (arith, s.contents, s.bodies) in
      omega (arith, s.long, block_room g.segments.0 below)

  pub link_room : (b : ℕ) → b < g.blocks → 2 * block_at g b + 1 < length img
  link_room b inside = omega (arith, s.long, s.some, block_room g.segments.0 inside)

  -- the same by the words of a block as they were read
  pub link_read : (b : ℕ) {words : ℕ} → words ≡ block_words g → b < g.blocks → 2 * (b * words) + 1 < length img
  link_read b is inside = rw is (link_room b inside)

-- the measures hold of an image of the same length
pub sized_same : {img img' : List ℕ} {g : Geometry} → Sized img g → length img' ≡ length img → Sized img' g
sized_same s same = record { long = same ∙ s.long; some = s.some; few = s.few; contents = s.contents; bodies = s.bodies; most = s.most; map = s.map }
