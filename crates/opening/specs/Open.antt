-- OPENI, OPENU and OPENE: what opening means, once for the three.
use Rattle.std.specs.Prelude.{ℕ, ◌+◌, List, []}
use Rattle.pack.specs.declared.Entry.{Entry}
use Rattle.pack.specs.declared.Key.{Key}
use Rattle.pack.specs.Geometry.{geometry_of}
use Rattle.asking.specs.Outcome.{Outcome, settled}
use Rattle.asking.specs.Asked.{entry_no, file_of}
use Rattle.pack.specs.EntryWords.{set_entry_word}
use Rattle.opening.specs.declared.Opening.{Opening}
use Rattle.opening.specs.declared.Opening.TheVariants.{Input, Update, Extension}
use Rattle.opening.specs.OpenRows.{open_rows, open_word, open_value}

-- the entry with another writer and other readers, every other field the same
abbrev pub with_opens : Entry → ℕ → ℕ → Entry
with_opens x writer readers =
    record {
      name1 = x.name1;
      name2 = x.name2;
      extension = x.extension;
      uic = x.uic;
      protect = x.protect;
      kind = x.kind;
      first = x.first;
      length = x.length;
      last = x.last;
      writer = writer;
      readers = readers;
    }

-- "OPENI needs read, adds a reader. OPENU needs write, contiguous only (43), writer 1. OPENE needs write, writer 3.": and nothing else of the entry
-- changes (`open_entry`, proofs/OpenEffect.antt). "9 writer (0 none, 1 U, 2 O, 3 E); 10 readers"
abbrev pub opened_entry : Opening → Entry → Entry
opened_entry Input x = with_opens x x.writer (x.readers + 1)
opened_entry Update x = with_opens x 1 x.readers
opened_entry Extension x = with_opens x 3 x.readers

unfoldable pub opened : Opening → List ℕ → Key → ℕ → Outcome
opened mode img key caller =
    settled (open_rows mode img key caller) img []
    (record {
      code = 0;
      numbers = [];
      image = set_entry_word img (geometry_of img) (entry_no img key) (open_word mode) (open_value mode (file_of img key));
      buffer = [];
    })
