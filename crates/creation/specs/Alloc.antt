-- ALLOC: a new contiguous file in the free run with the highest start.
use Rattle.std.specs.Prelude.{ℕ, ◌+◌, ◌-◌, List, [], ◌∷◌}
use Rattle.answers.specs.Missing.{or_else}
use Rattle.pack.specs.declared.Key.{Key}
use Rattle.pack.specs.Geometry.{geometry_of}
use Rattle.asking.specs.Outcome.{Outcome, settled}
use Rattle.room.specs.RoomTest.{highest_run}
use Rattle.room.specs.Cleared.{taken}
use Rattle.creation.specs.declared.creating.Shape.{Shape}
use Rattle.creation.specs.Creating.{new_file, created}
use Rattle.creation.specs.AllocRows.{alloc_rows}
use Rattle.creation.specs.Rounding.{length_for}

-- "The free run with the highest start": its first block
abbrev pub start_for : List ℕ → ℕ → ℕ
start_for img segments = or_else 0 (highest_run img (length_for img segments))

-- contiguous, "last = first + length - 1"; "Writer and readers are 0."
abbrev pub extent_from : ℕ → ℕ → Shape
extent_from first length = record { kind = 1; first = record { 0 = first }; length = length; last = record { 0 = first + length - 1 }; writer = 0 }

-- "The free run with the highest start is taken, the lowest empty entry filled." "ALLOC and linked add also return the first or added block";
-- document 02 §2: "ALLOC shall leave every block it takes all zero"; §7: each has its bit on the map
unfoldable pub alloc : List ℕ → Key → ℕ → ℕ → ℕ → Outcome
alloc img key caller protect segments =
    settled (alloc_rows img key caller protect segments) img []
    (record {
      code = 0;
      numbers = start_for img segments ∷ [];
      image =
          taken (created img (new_file key protect (extent_from (start_for img segments) (length_for img segments)))) (geometry_of img)
          (start_for img segments) (length_for img segments);
      buffer = [];
    })
