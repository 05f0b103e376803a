-- The words of an entry that say where its chain begins, how long it is, and where it ends.
use Rattle.std.specs.Prelude.{ℕ, List}
use Rattle.pack.specs.declared.Geometry.{Geometry}
use Rattle.pack.specs.EntryWords.{set_entry_word}

-- "6 first block; 7 length in blocks; 8 last block"
abbrev pub resized : List ℕ → Geometry → ℕ → ℕ → ℕ → ℕ → List ℕ
resized img g e first length last = set_entry_word (set_entry_word (set_entry_word img g e 6 first) g e 7 length) g e 8 last
