-- The bytes of a block, and of its payload.
use Rattle.std.specs.Prelude.{ℕ, ◌+◌, ◌*◌, List, ◌++◌, take, drop, length}
use Rattle.pack.specs.declared.Geometry.{Geometry}
use Rattle.pack.specs.Geometry.{block_bytes, payload_bytes}

-- `count` bytes of an image from a place on, and the image with other bytes there
abbrev pub part_of : List ℕ → ℕ → ℕ → List ℕ
part_of img at count = take count (drop at img)

abbrev pub with_part : List ℕ → ℕ → List ℕ → List ℕ
with_part img at part = take at img ++ (part ++ drop (at + length part) img)

-- "the 512 bytes of the image, starting at that block"
abbrev pub block_start : Geometry → ℕ → ℕ
block_start g b = b * block_bytes g

abbrev pub block_of : List ℕ → Geometry → ℕ → List ℕ
block_of img g b = part_of img (block_start g b) (block_bytes g)

-- "its payload is the 510 bytes that start at byte 2 of a block"
abbrev pub payload_start : Geometry → ℕ → ℕ
payload_start g b = b * block_bytes g + 2

abbrev pub payload_of : List ℕ → Geometry → ℕ → List ℕ
payload_of img g b = part_of img (payload_start g b) (payload_bytes g)
