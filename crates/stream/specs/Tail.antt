-- Means: what is still to be read of a linked file, the bytes from its spot on, and in which image they stand.
use Rattle.std.specs.Prelude.{ℕ, List, ◌≡◌}
use Rattle.pack.specs.declared.Geometry.{Geometry}
use Rattle.stream.specs.declared.Tail.{Tail}
use Rattle.stream.specs.Spot.{bytes_from}

abbrev pub rest : Tail → List ℕ
rest tail = bytes_from tail.img.now tail.g tail.spot

-- its image is this one, and so are its measures
abbrev pub ReadFrom : List ℕ → Geometry → Tail → Type 0
ReadFrom img g tail = (tail.img.now ≡ img) × (tail.g ≡ g)
