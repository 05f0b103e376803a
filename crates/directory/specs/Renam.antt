-- RENAM.
use Rattle.std.specs.Prelude.{ℕ, List, [], ◌∷◌}
use Rattle.pack.specs.declared.Geometry.{Geometry}
use Rattle.pack.specs.declared.Key.{Key}
use Rattle.pack.specs.Geometry.{geometry_of}
use Rattle.asking.specs.Outcome.{Outcome, settled}
use Rattle.asking.specs.Asked.{entry_no}
use Rattle.pack.specs.EntryWords.{set_entry_word, set_entry_words}
use Rattle.directory.specs.RenamRows.{renam_rows}

-- "the UIC stays": the new name's key has the old one's UIC
abbrev pub new_key : Key → ℕ → ℕ → ℕ → Key
new_key key name1 name2 extension = record { name1 = name1; name2 = name2; extension = extension; uic = key.uic }

-- "changes name, extension and protect code"
abbrev pub renamed : List ℕ → Geometry → ℕ → Key → ℕ → List ℕ
renamed img g e new protect =
    set_entry_word (set_entry_words img g e 0 (new.name1 ∷ (new.name2 ∷ (new.extension ∷ [])))) g e 4 protect

unfoldable pub renam : List ℕ → Key → Key → ℕ → ℕ → Outcome
renam img old new protect caller =
    settled (renam_rows img old new protect caller) img []
    (record { code = 0; numbers = []; image = renamed img (geometry_of img) (entry_no img old) new protect; buffer = [] })
