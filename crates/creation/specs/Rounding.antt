-- "the rounding step alone turns segments into blocks".
use Rattle.std.specs.Prelude.{ℕ, ◌+◌, ◌/◌, ◌%◌, List, ltb}
use Rattle.pack.specs.declared.Geometry.{Geometry}
use Rattle.pack.specs.File.{one}
use Rattle.pack.specs.Geometry.{geometry_of}

-- "N segments (000: B = 4 per block) make N/4 blocks rounded up": the segments in a block are the pack's. A reading easily
-- got wrong is "Giving ALLOC the lowest run, or N blocks."
unfoldable pub blocks_for : Geometry → ℕ → ℕ
blocks_for g segments = segments / g.segments.0 + one (ltb 0 (segments % g.segments.0))

-- the blocks that the request asks for
abbrev pub length_for : List ℕ → ℕ → ℕ
length_for img segments = blocks_for (geometry_of img) segments
