-- KEEP.
use Rattle.std.specs.Prelude.{ℕ, ◌+◌, ◌/◌, ◌%◌, cond, List, [], eqb}
use Rattle.pack.specs.declared.Key.{Key}
use Rattle.pack.specs.Geometry.{geometry_of}
use Rattle.asking.specs.Outcome.{Outcome, settled}
use Rattle.asking.specs.Asked.{entry_no, file_of}
use Rattle.pack.specs.EntryWords.{set_entry_word}
use Rattle.directory.specs.KeepRows.{keep_rows}

-- "sets bit 7"; "Bit 7 keeps the file at Finish."
unfoldable pub kept_code : ℕ → ℕ
kept_code protect = cond (eqb ((protect / 128) % 2) 0) (protect + 128) protect

unfoldable pub keep : List ℕ → Key → ℕ → Outcome
keep img key caller =
    settled (keep_rows img key caller) img []
    (record { code = 0; numbers = []; image = set_entry_word img (geometry_of img) (entry_no img key) 4 (kept_code (file_of img key).protect); buffer = [] })
