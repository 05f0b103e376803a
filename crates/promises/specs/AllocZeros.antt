-- ALLOC, then OPENI of the new file by a reader: the images after each, and a block all zero.
use Rattle.std.specs.Prelude.{ℕ, List, replicate}
use Rattle.pack.specs.declared.Key.{Key}
use Rattle.pack.specs.Geometry.{geometry_of, block_bytes}
use Rattle.opening.specs.declared.Opening.TheVariants.{Input}
use Rattle.opening.specs.Open.{opened}
use Rattle.creation.specs.Alloc.{alloc}

abbrev pub allocated_image : List ℕ → Key → ℕ → ℕ → ℕ → List ℕ
allocated_image img key caller protect segments = (alloc img key caller protect segments).image

abbrev pub readable_image : List ℕ → Key → ℕ → ℕ → ℕ → ℕ → List ℕ
readable_image img key caller protect segments reader = (opened Input (allocated_image img key caller protect segments) key reader).image

-- "all zero": the bytes of a block of the image
abbrev pub zero_block : List ℕ → List ℕ
zero_block img = replicate (block_bytes (geometry_of img)) 0
