-- Means: a walk along the blocks of a file: so many blocks are passed, and `at` is the next.
use Rattle.std.specs.Prelude.{ℕ, ◌≤◌, ◌≡◌, List}
use Rattle.pack.specs.declared.Geometry.{Geometry}
use Rattle.pack.specs.File.{next_of, after}

pub record BlockWalk (img : List ℕ) (g : Geometry) (kind first end passed at : ℕ) : Type 0 where
  pub before : passed ≤ end
  pub stands : at ≡ after (next_of img g kind) passed first
