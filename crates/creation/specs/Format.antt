-- Format: an empty pack.
use Rattle.std.specs.Prelude.{ℕ, ◌+◌, ◌*◌, ◌-◌, List, [], ◌++◌, length, drop, replicate}
use Rattle.words.specs.Word.{bytes_of}
use Rattle.pack.specs.declared.Geometry.{Geometry}
use Rattle.pack.specs.Form.{segments_of, bodies_of}
use Rattle.pack.specs.Geometry.{segment_bytes}
use Rattle.pack.specs.Map.{bits_set}
use Rattle.room.specs.Room.{run_from}
use Rattle.asking.specs.Outcome.{Outcome, settled}
use Rattle.creation.specs.FormatRows.{format_rows}
use Rattle.creation.specs.Formattable.{uics_in}

-- the bytes before the bodies
abbrev pub system_bytes : ℕ → ℕ → ℕ
system_bytes form contents = bodies_of form contents * segment_bytes (segments_of form)

-- the measures that are asked for
abbrev pub measures_of : ℕ → ℕ → ℕ → Geometry
measures_of form blocks contents =
    record { segments = record { 0 = segments_of form }; blocks = blocks; contents = contents; bodies = record { 0 = bodies_of form contents } }

-- "writes blocks 0 to c, bodies untouched", in form 2 to c + 1, its map's bits all 0: "word 0 is 1", or the form; "word 1 is n ..; word 2 is c ..; word 3 is u ..;
-- then u UICs ..; the rest 0", empty entries, and the bodies as they were
unfoldable pub empty_pack : List ℕ → ℕ → ℕ → ℕ → List ℕ → List ℕ
empty_pack image form blocks contents uics =
    (bytes_of form ++ (bytes_of blocks ++ (bytes_of contents ++ bytes_of (uics_in uics))))
    ++ (uics ++ (replicate (system_bytes form contents - (8 + length uics)) 0 ++ drop (system_bytes form contents) image))

-- and, document 02 §7, on the map "1 if system or held, 0 otherwise": the blocks of the system, 0 to c + 1
unfoldable pub formatted : List ℕ → ℕ → ℕ → ℕ → List ℕ → List ℕ
formatted image form blocks contents uics =
    bits_set (empty_pack image form blocks contents uics) (measures_of form blocks contents) (run_from 0 (bodies_of form contents)) 1

-- the lent list of UICs is only read
unfoldable pub format : List ℕ → ℕ → ℕ → ℕ → List ℕ → Outcome
format image form blocks contents uics =
    settled (format_rows image form blocks contents uics) image uics
    (record { code = 0; numbers = []; image = formatted image form blocks contents uics; buffer = uics })
