-- DELET.
use Rattle.std.specs.Prelude.{ℕ, List, []}
use Rattle.pack.specs.declared.Key.{Key}
use Rattle.pack.specs.declared.Geometry.{Geometry}
use Rattle.pack.specs.Geometry.{geometry_of}
use Rattle.asking.specs.Outcome.{Outcome, settled}
use Rattle.asking.specs.Asked.{entry_no}
use Rattle.pack.specs.Entry.{blocks_at}
use Rattle.pack.specs.EntryWords.{clear_entry}
use Rattle.pack.specs.Map.{bits_set}
use Rattle.directory.specs.DeletRows.{delet_rows}

-- the file of entry e gone: "clears the entry, bodies untouched"; document 02 §7: its blocks are held no longer, and their bits on the map are 0
unfoldable pub deleted : List ℕ → Geometry → ℕ → List ℕ
deleted img g e = clear_entry (bits_set img g (blocks_at img g e) 0) g e

-- "DELET needs delete; .."
unfoldable pub delet : List ℕ → Key → ℕ → Outcome
delet img key caller =
    settled (delet_rows img key caller) img []
    (record { code = 0; numbers = []; image = deleted img (geometry_of img) (entry_no img key); buffer = [] })
