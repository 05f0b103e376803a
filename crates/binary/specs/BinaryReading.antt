-- Reading a formatted binary line: the request.
use Rattle.std.specs.Prelude.{ℕ, ◌+◌, List, [], ◌∷◌, ◌++◌, length, drop}
use Rattle.pack.specs.declared.Key.{Key}
use Rattle.asking.specs.Outcome.{Outcome, settled}
use Rattle.stream.specs.BytesReading.{bytes_behind}
use Rattle.lines.specs.LineReading.{mode_of}
use Rattle.binary.specs.BinaryRead.{BinaryFound, binary_found}
use Rattle.binary.specs.BinaryReadingRows.{binary_read_rows}

-- count, status, the next position, "the length still to come and the sum so far"
abbrev pub numbers_from : ℕ → BinaryFound → List ℕ
numbers_from position found = found.count ∷ (found.status ∷ ((position + found.passed) ∷ (found.to_come ∷ (found.sum ∷ []))))

-- bytes of the lent buffer not laid over stay
abbrev pub laid_in : List ℕ → BinaryFound → List ℕ
laid_in buffer found = found.laid ++ drop (length found.laid) buffer

abbrev pub binary_outcome : List ℕ → ℕ → List ℕ → BinaryFound → Outcome
binary_outcome img position buffer found = record { code = 0; numbers = numbers_from position found; image = img; buffer = laid_in buffer found }

-- the buffer's length is the maximum count
unfoldable pub binary_read : List ℕ → Key → ℕ → ℕ → ℕ → ℕ → ℕ → List ℕ → Outcome
binary_read img key caller mode position to_come sum buffer =
    settled (binary_read_rows img key caller mode position to_come sum buffer) img buffer
    (binary_outcome img position buffer (binary_found (mode_of mode) (length buffer) to_come sum (bytes_behind img key position)))
