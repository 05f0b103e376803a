-- Reading a line, request by request: the next position is never beyond the payloads, and grows until it is at their end.
use Prim.Native.Nat.{ℕ, ◌+◌, ◌*◌, ◌≤◌, ◌<◌}
use mathlib.Core.Path.{◌≡◌, ap}
use mathlib.Core.List.{List}
use native.Mathlib.Decide.{ℕ_discrete}
use native.Mathlib.Omega.{arith}
use lib.ListN.{length, get_or}
use Rattle.pack.specs.declared.Key.{Key}
use Rattle.pack.specs.Geometry.{geometry_of, payload_bytes}
use Rattle.asking.specs.Asked.{file_of}
use Rattle.asking.specs.Outcome.{Outcome}
use Rattle.stream.specs.BytesReading.{bytes_behind}
use Rattle.stream.proofs.BytesReadingStage.{bytes_left}
use Rattle.lines.specs.LineRead.{line_found}
use Rattle.lines.specs.LineReading.{mode_of, line_read}
use Rattle.lines.proofs.LineReadProgress.{passed_most, passed_some}
use Rattle.lines.proofs.LineReadingStage.{some_room, line_read_given, line_read_clear, line_read_refused}

-- "returns the next position": the third of its numbers
abbrev pub next_position : Outcome → ℕ
next_position outcome = get_or outcome.numbers 2 0

module _ (img : List ℕ) (key : Key) (caller mode position : ℕ) (buffer : List ℕ) where
  abbrev passed : ℕ
  passed = (line_found (mode_of mode) (length buffer) (bytes_behind img key position)).passed

  -- where the code is 0: so many bytes are passed of those that are left
  next_is : (line_read img key caller mode position buffer).code ≡ 0 → next_position (line_read img key caller mode position buffer) ≡ position + passed
  next_is none = let c = line_read_clear img key caller mode position buffer none in ap next_position (line_read_given c.0 c.1)

  pub line_read_most : next_position (line_read img key caller mode position buffer) ≤ (file_of img key).length * payload_bytes (geometry_of img)
  line_read_most = by (ℕ_discrete (line_read img key caller mode position buffer).code 0)
    where
      by : Dec ((line_read img key caller mode position buffer).code ≡ 0)
          → next_position (line_read img key caller mode position buffer) ≤ (file_of img key).length * payload_bytes (geometry_of img)
      by (yes none) =
          let c = line_read_clear img key caller mode position buffer none in
          omega (arith, next_is none, passed_most (mode_of mode) (length buffer) (bytes_behind img key position), bytes_left c.0.reached position, c.1)
      by (no never) =
          let zero = ap (λ (numbers : List ℕ). get_or numbers 2 0) (line_read_refused img key caller mode position buffer never).same_numbers in
          omega (arith, zero)

  pub line_read_grows : (line_read img key caller mode position buffer).code ≡ 0 → position < (file_of img key).length * payload_bytes (geometry_of img)
      → position < next_position (line_read img key caller mode position buffer)
  line_read_grows none before =
      let c = line_read_clear img key caller mode position buffer none in
      let some = some_room mode buffer c.0.reached.file.argument in
      let left : 0 < length (bytes_behind img key position) = omega (arith, bytes_left c.0.reached position, before) in
      omega (arith, next_is none, passed_some (mode_of mode) (length buffer) (bytes_behind img key position) some left)
