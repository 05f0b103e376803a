-- Reading a line: the request.
use Rattle.std.specs.Prelude.{ℕ, ◌+◌, cond, List, [], ◌∷◌, ◌++◌, eqb, length, drop}
use Rattle.pack.specs.declared.Key.{Key}
use Rattle.asking.specs.Outcome.{Outcome, settled}
use Rattle.stream.specs.BytesReading.{bytes_behind}
use Rattle.lines.specs.declared.LineMode.{LineMode}
use Rattle.lines.specs.declared.LineMode.TheVariants.{Normal, Special}
use Rattle.lines.specs.LineRead.{LineFound, line_found}
use Rattle.lines.specs.LineReadingRows.{line_read_rows}

-- the mode that a number means: 0 normal, 1 special
abbrev pub mode_of : ℕ → LineMode
mode_of mode = cond (eqb mode 1) Special Normal

-- count, status and "the next position"; "Bytes of a lent buffer not laid over stay."
abbrev pub found_outcome : List ℕ → ℕ → List ℕ → LineFound → Outcome
found_outcome img position buffer found =
    record {
      code = 0;
      numbers = found.count ∷ (found.status ∷ ((position + found.passed) ∷ []));
      image = img;
      buffer = found.laid ++ drop (length found.laid) buffer;
    }

-- "the maximum count, the lent buffer's length"
unfoldable pub line_read : List ℕ → Key → ℕ → ℕ → ℕ → List ℕ → Outcome
line_read img key caller mode position buffer =
    settled (line_read_rows img key caller mode position buffer) img buffer
    (found_outcome img position buffer (line_found (mode_of mode) (length buffer) (bytes_behind img key position)))
