-- Means: what DELET leaves on the map of a pack's blocks: where it clears an entry, nobody holds the blocks of its file.
use Rattle.std.specs.Prelude.{ℕ, List}
use Rattle.answers.specs.Refusals.{first_of, on_success}
use Rattle.pack.specs.declared.Key.{Key}
use Rattle.pack.specs.Geometry.{geometry_of}
use Rattle.pack.specs.Entry.{blocks_at}
use Rattle.asking.specs.Asked.{entry_no}
use Rattle.room.specs.RoomMap.{unmarked}
use Rattle.directory.specs.DeletRows.{delet_rows}

unfoldable pub delet_map : List ℕ → List ℕ → Key → ℕ → List ℕ
delet_map map img key caller = on_success (first_of (delet_rows img key caller)) (unmarked map (blocks_at img (geometry_of img) (entry_no img key))) map
