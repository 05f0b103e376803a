-- OPENO: a new linked file without a block, open for output.
use Rattle.std.specs.Prelude.{ℕ, List, []}
use Rattle.pack.specs.declared.Key.{Key}
use Rattle.asking.specs.Outcome.{Outcome, settled}
use Rattle.creation.specs.declared.creating.Shape.{Shape}
use Rattle.creation.specs.Creating.{new_file, created}
use Rattle.creation.specs.OpenoRows.{openo_rows}

-- "a new linked file of length 0, writer 2, readers 0."
abbrev pub empty_output : Shape
empty_output = record { kind = 2; first = record { 0 = 0 }; length = 0; last = record { 0 = 0 }; writer = 2 }

-- "OPENO: a new linked file .. Lowest empty entry."
unfoldable pub openo : List ℕ → Key → ℕ → ℕ → Outcome
openo img key caller protect =
    settled (openo_rows img key caller protect) img []
    (record { code = 0; numbers = []; image = created img (new_file key protect empty_output); buffer = [] })
