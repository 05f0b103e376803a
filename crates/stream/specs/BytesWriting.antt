-- Bytes written to a linked file through a lent gather buffer: what the requests that write have in common.
use Rattle.std.specs.Prelude.{ℕ, Bool, not, ◌||◌, List, eqb, leb, length}
use Rattle.answers.specs.Refusals.{Row}
use Rattle.pack.specs.declared.Key.{Key}
use Rattle.pack.specs.Geometry.{geometry_of, payload_bytes}
use Rattle.asking.specs.Outcome.{Outcome, settled}
use Rattle.adding.specs.LinkedAddRows.{linked_add_rows}
use Rattle.stream.specs.Gather.{Gathered, gathered}
use Rattle.stream.specs.AddedAll.{added_all}

-- "41 also for .. a filled count over 509"; the gather buffer is not of a payload's size
abbrev pub wrong_gather : List ℕ → List ℕ → ℕ → Bool
wrong_gather img gather filled = not (eqb (length gather) (payload_bytes (geometry_of img))) || leb (payload_bytes (geometry_of img)) filled

-- the bytes gathered behind the first `filled` of the buffer, a payload being of the size that the image's form says: the buffer and the filled count
-- that they leave, and the payloads that became full, in order
abbrev pub gathered_in : List ℕ → List ℕ → ℕ → List ℕ → Gathered
gathered_in img gather filled bytes = gathered (payload_bytes (geometry_of img)) gather filled bytes

-- "Refusals: those of linked .. add"; "A write whose full blocks have no room is refused whole.": as many blocks are needed as become full.
-- `wrong` says that another argument is wrong.
abbrev pub writing_rows : List ℕ → Key → ℕ → Bool → List ℕ → ℕ → List ℕ → List Row
writing_rows img key caller wrong gather filled bytes =
    linked_add_rows img key caller (wrong_gather img gather filled || wrong) (length (gathered_in img gather filled bytes).full)

-- "Writing gathers a block's payload in a lent 510-byte buffer .. and adds full blocks"; the numbers are those of the answer on success
unfoldable pub bytes_written : List ℕ → Key → ℕ → Bool → List ℕ → ℕ → List ℕ → List ℕ → Outcome
bytes_written img key caller wrong gather filled bytes numbers =
    settled (writing_rows img key caller wrong gather filled bytes) img gather
    (record {
      code = 0;
      numbers = numbers;
      image = added_all img key caller (gathered_in img gather filled bytes).full;
      buffer = (gathered_in img gather filled bytes).buffer;
    })
