-- Means: the answer of the stage of ALLOC.
use Rattle.std.specs.Prelude.{ℕ, List, Result, Ok, Err}
use Rattle.answers.specs.declared.Refusal.{Refusal}
use Rattle.answers.specs.Refusals.{first_of, on_success, code_of}
use Rattle.pack.specs.declared.Key.{Key}
use Rattle.pack.specs.declared.Geometry.{Geometry}
use Rattle.pack.specs.declared.BlockNo.{BlockNo}
use Rattle.pack.specs.Geometry.{geometry_of}
use Rattle.room.specs.declared.Blocks.{Blocks}
use Rattle.creation.specs.declared.alloc.Extent.{Extent as Chosen}
use Rattle.creation.specs.Creating.{entry_for}
use Rattle.creation.specs.AllocRows.{alloc_rows}
use Rattle.creation.specs.Rounding.{length_for}
use Rattle.creation.specs.Alloc.{start_for}

-- the pack's measures, the entry of the new file, its first block and its length; or a refusal's code
pub data Allocating : Type 0 where
  Extent : Geometry → ℕ → BlockNo → Blocks → Allocating
  Refused : ℕ → Allocating

unfoldable pub allocating_of : List ℕ → Key → ℕ → ℕ → ℕ → Allocating
allocating_of img key caller protect segments =
    on_success (first_of (alloc_rows img key caller protect segments))
    (Extent (geometry_of img) (entry_for img) (record { 0 = start_for img segments }) (record { 0 = length_for img segments }))
    (Refused (first_of (alloc_rows img key caller protect segments)))

-- the stage's answer as the code gives it
abbrev pub allocating_in : Result Chosen Refusal → Allocating
allocating_in (Ok extent) = Extent extent.slot.geometry extent.slot.number extent.start extent.count
allocating_in (Err refusal) = Refused (code_of refusal)
