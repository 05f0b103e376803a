-- Writing a formatted binary line: the request. The ending call is that of lines of text.
use Rattle.std.specs.Prelude.{ℕ, List, [], ◌∷◌, ltb, length}
use Rattle.pack.specs.declared.Key.{Key}
use Rattle.asking.specs.Outcome.{Outcome}
use Rattle.stream.specs.BytesWriting.{gathered_in, bytes_written}
use Rattle.binary.specs.BinaryLine.{binary_line}

-- "At most 512 data bytes"; "41 also for a longer line"; the count, all of them, status 0, and the filled count
unfoldable pub binary_write : List ℕ → Key → ℕ → List ℕ → List ℕ → ℕ → Outcome
binary_write img key caller content gather filled =
    bytes_written img key caller (ltb 512 (length content)) gather filled (binary_line content)
    (length content ∷ (0 ∷ ((gathered_in img gather filled (binary_line content)).filled ∷ [])))
