-- The payloads of the blocks of a linked file.
use Rattle.std.specs.Prelude.{ℕ, List, [], ◌∷◌, ◌++◌}
use Rattle.pack.specs.declared.Geometry.{Geometry}
use Rattle.bodies.specs.BlockBytes.{payload_of}

-- "its payload is the 510 bytes that start at byte 2 of a block": of each block of a list, one behind the other
unfoldable pub payloads_of : List ℕ → Geometry → List ℕ → List ℕ
payloads_of img g [] = []
payloads_of img g (b ∷ bs) = payload_of img g b ++ payloads_of img g bs
