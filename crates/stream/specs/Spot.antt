-- Means: a spot in the payloads of a linked file, the bytes that stand from there on, and what going on from there counts on.
use Rattle.std.specs.Prelude.{ℕ, ◌+◌, ◌*◌, ◌-◌, ◌≤◌, ◌<◌, ◌≡◌, List, drop}
use Rattle.pack.specs.declared.Geometry.{Geometry}
use Rattle.pack.specs.Geometry.{segment_bytes, block_bytes, payload_bytes}
use Rattle.pack.specs.GeometrySized.{most_segments, Sized}
use Rattle.pack.specs.File.{link_of, chain, count}
use Rattle.bodies.specs.BlockBytes.{block_start, payload_start}
use Rattle.bodies.specs.Payloads.{payloads_of}
use Rattle.stream.specs.declared.Spot.{Spot}

-- the payloads of `left` blocks from b on, each the link of the one before
unfoldable pub payloads_from : List ℕ → Geometry → ℕ → ℕ → List ℕ
payloads_from img g left b = payloads_of img g (chain (link_of img g) left b)

-- no file has more bytes: its length is a word
abbrev pub most_bytes : ℕ
most_bytes = 65536 * segment_bytes most_segments

-- what is left of the payload of its block, and the payloads of the blocks behind it
unfoldable pub bytes_from : List ℕ → Geometry → Spot → List ℕ
bytes_from img g spot = drop (spot.at - payload_start g spot.block.0) (payloads_from img g spot.left spot.block.0)

-- these blocks are of the pack
pub record Chained (img : List ℕ) (g : Geometry) (left b : ℕ) : Type 0 where
  pub sized : Sized img g
  pub inside : (z : ℕ) → 0 < count z (chain (link_of img g) left b) → z < g.blocks

-- a spot with blocks left is at a byte of the payload of its block
pub record Standing (img : List ℕ) (g : Geometry) (spot : Spot) : Type 0 where
  pub chained : Chained img g spot.left spot.block.0
  pub from : 0 < spot.left → payload_start g spot.block.0 ≤ spot.at
  pub before : 0 < spot.left → spot.at < spot.end
  pub close : 0 < spot.left → spot.end ≡ block_start g spot.block.0 + block_bytes g

-- on the way to a spot: `offset` bytes of these payloads are still to pass, and what stands behind them is `rest`
pub record Seeking (img : List ℕ) (g : Geometry) (rest : List ℕ) (b offset left : ℕ) : Type 0 where
  pub chained : Chained img g left b
  pub within : offset ≤ left * payload_bytes g
  pub stands : drop offset (payloads_from img g left b) ≡ rest
