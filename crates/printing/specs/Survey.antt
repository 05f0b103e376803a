-- Means: what the listing needs to know of an image, where it is consistent: its measures, and how many blocks are free.
use Rattle.std.specs.Prelude.{ℕ, cond, List, Option, Some, None}
use Rattle.pack.specs.declared.Geometry.{Geometry}
use Rattle.pack.specs.Geometry.{geometry_of}
use Rattle.pack.specs.Owner.{free_count}
use Rattle.consistency.specs.ConsistentTest.{consistent}

unfoldable pub surveyed : List ℕ → Option (Geometry × ℕ)
surveyed img = cond (consistent img) (Some (geometry_of img, free_count img)) None
