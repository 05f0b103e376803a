-- CLOSE.
use Rattle.std.specs.Prelude.{ℕ, ◌+◌, ◌≡◌, List, []}
use Rattle.pack.specs.declared.Entry.{Entry}
use Rattle.pack.specs.declared.Key.{Key}
use Rattle.pack.specs.Geometry.{geometry_of}
use Rattle.asking.specs.Outcome.{Outcome, settled}
use Rattle.asking.specs.Asked.{entry_no, file_of}
use Rattle.pack.specs.EntryWords.{set_entry_word}
use Rattle.opening.specs.Open.{with_opens}
use Rattle.opening.specs.CloseRows.{close_rows, close_word, close_value}

-- "takes that open away": with mode 4 one of the readers, with another the writer, which has that mode; and nothing else of the entry changes.
-- `proofs/CloseEffect.antt` has it as `close_entry`.
pub data Closed (x : Entry) : ℕ → Entry → Type 0 where
  a_reader : {readers : ℕ} → x.readers ≡ readers + 1 → Closed x 4 (with_opens x x.writer readers)
  the_writer : {mode : ℕ} → (mode ≡ 4 → ⊥) → x.writer ≡ mode → Closed x mode (with_opens x 0 x.readers)

unfoldable pub close : List ℕ → Key → ℕ → Outcome
close img key mode =
    settled (close_rows img key mode) img []
    (record {
      code = 0;
      numbers = [];
      image = set_entry_word img (geometry_of img) (entry_no img key) (close_word mode) (close_value mode (file_of img key));
      buffer = [];
    })
