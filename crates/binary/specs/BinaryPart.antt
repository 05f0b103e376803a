-- Means: what the code answers of one reading, as what is found.
use Rattle.std.specs.Prelude.{ℕ, ◌≡◌, List}
use Rattle.binary.specs.declared.binary_read.Part.{Part}
use Rattle.binary.specs.BinaryRead.{BinaryFound}
use Rattle.binary.specs.BinaryReading.{laid_in}

-- its numbers
pub record Tells (f : BinaryFound) (r : Part) : Type 0 where
  pub count : r.count ≡ f.count
  pub status : r.status ≡ f.status
  pub passed : r.passed ≡ f.passed
  pub coming : r.coming ≡ f.to_come
  pub sum : r.sum ≡ f.sum

-- and the buffer that it leaves
pub record ReadsAs (f : BinaryFound) (buffer after : List ℕ) (r : Part) : Type 0 where
  pub tells : Tells f r
  pub laid : after ≡ laid_in buffer f
