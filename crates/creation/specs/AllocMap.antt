-- Means: what ALLOC leaves on the map of a pack's blocks.
use Rattle.std.specs.Prelude.{ℕ, List}
use Rattle.answers.specs.Refusals.{first_of, on_success}
use Rattle.pack.specs.declared.Key.{Key}
use Rattle.room.specs.RoomMap.{marked_from}
use Rattle.creation.specs.AllocRows.{alloc_rows}
use Rattle.creation.specs.Rounding.{length_for}
use Rattle.creation.specs.Alloc.{start_for}

-- the blocks of the run are marked where nothing speaks against the request, and else the map is as it was
unfoldable pub alloc_map : List ℕ → List ℕ → Key → ℕ → ℕ → ℕ → List ℕ
alloc_map map img key caller protect segments =
    on_success (first_of (alloc_rows img key caller protect segments)) (marked_from map (start_for img segments) (length_for img segments)) map
