-- Means: what every reader of an image with a right header counts on (proofs/HeaderRules.antt, `header_sized`).
use Rattle.std.specs.Prelude.{ℕ, ◌*◌, ◌≤◌, ◌<◌, ◌≡◌, List, length}
use Rattle.pack.specs.declared.Geometry.{Geometry}
use Rattle.pack.specs.Geometry.{block_words, block_bytes}

-- the most blocks, the most segments in a block and the most blocks of contents of any form
abbrev pub most_blocks : ℕ
most_blocks = 4096

abbrev pub most_segments : ℕ
most_segments = 4

abbrev pub most_contents : ℕ
most_contents = 32

-- the most entries of a pack of any form
abbrev pub most_entries : ℕ
most_entries = most_contents * (4 * most_segments)

pub record Sized (img : List ℕ) (g : Geometry) : Type 0 where
  pub long : length img ≡ g.blocks * block_bytes g
  pub some : 0 < g.segments.0
  pub few : g.segments.0 ≤ most_segments
  pub contents : g.contents < g.bodies.0
  pub bodies : g.bodies.0 < g.blocks
  pub most : g.blocks ≤ most_blocks
  -- a block has a bit for each block of the pack: so one block can be its map
  pub map : g.blocks ≤ 16 * block_words g
