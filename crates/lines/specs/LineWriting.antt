-- Writing a line, and the ending call: the requests.
use Rattle.std.specs.Prelude.{ℕ, ◌-◌, false, cond, List, [], ◌∷◌, eqb, ltb, length, replicate}
use Rattle.pack.specs.declared.Key.{Key}
use Rattle.pack.specs.Geometry.{geometry_of, payload_bytes}
use Rattle.asking.specs.Outcome.{Outcome}
use Rattle.lines.specs.LineWrite.{put_all, taken_of, written_status}
use Rattle.lines.specs.LineReading.{mode_of}
use Rattle.stream.specs.BytesWriting.{gathered_in, bytes_written}

-- "both return the count taken", the status, and the filled count; a mode that is neither normal nor special is a wrong argument
unfoldable pub line_write : List ℕ → Key → ℕ → ℕ → List ℕ → List ℕ → ℕ → Outcome
line_write img key caller mode text gather filled =
    bytes_written img key caller (ltb 1 mode) gather filled (put_all (taken_of (mode_of mode) text))
    (length (taken_of (mode_of mode) text)
    ∷ (written_status (taken_of (mode_of mode) text) ∷ ((gathered_in img gather filled (put_all (taken_of (mode_of mode) text))).filled ∷ [])))

-- "an ending call fills the last with NUL, or adds none at 0": the NULs that fill it
abbrev pub nuls_for : List ℕ → ℕ → List ℕ
nuls_for img filled = replicate (cond (eqb filled 0) 0 (payload_bytes (geometry_of img) - filled)) 0

unfoldable pub line_end : List ℕ → Key → ℕ → List ℕ → ℕ → Outcome
line_end img key caller gather filled = bytes_written img key caller false gather filled (nuls_for img filled) []
