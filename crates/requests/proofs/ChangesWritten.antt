-- A request changes only what it writes where no row refuses.
use Prim.Native.Nat.{ℕ}
use mathlib.Core.Path.{◌≡◌}
use mathlib.Core.List.{List}
use Rattle.answers.specs.Refusals.{Row, first_of}
use Rattle.asking.specs.Outcome.{Outcome, settled}
use Rattle.asking.proofs.Outcome.{image_by}
use Rattle.frame.specs.Framed.{ChangesOnly}
use Rattle.frame.proofs.ChangesWritten.{changes_nothing}

module _ {May : ℕ → Type 0} where
  -- what is asked of a request: that the image that it writes, where no row refuses, is such a change
  pub changes_settled : (rows : List Row) (img buffer : List ℕ) (effect : Outcome) → (first_of rows ≡ 0 → ChangesOnly May img effect.image)
      → ChangesOnly May img (settled rows img buffer effect).image
  changes_settled rows img buffer effect written = image_by rows img buffer effect (ChangesOnly May img) changes_nothing written
