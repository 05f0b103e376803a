-- The words of an entry that a request writes.
use Rattle.std.specs.Prelude.{ℕ, ◌+◌, List, [], ◌∷◌, replicate}
use Rattle.words.specs.Word.{set_word}
use Rattle.pack.specs.declared.Geometry.{Geometry}
use Rattle.pack.specs.declared.Entry.{Entry}
use Rattle.pack.specs.Geometry.{entry_at}

-- word i of entry e set
abbrev pub set_entry_word : List ℕ → Geometry → ℕ → ℕ → ℕ → List ℕ
set_entry_word img g e i word = set_word img (entry_at g e + i) word

-- words of entry e set in a row, the first of them word i
unfoldable pub set_entry_words : List ℕ → Geometry → ℕ → ℕ → List ℕ → List ℕ
set_entry_words img g e i [] = img
set_entry_words img g e i (word ∷ more) = set_entry_words (set_entry_word img g e i word) g e (i + 1) more

-- "clears the entry": all its sixteen words
abbrev pub clear_entry : List ℕ → Geometry → ℕ → List ℕ
clear_entry img g e = set_entry_words img g e 0 (replicate 16 0)

-- the sixteen words of an entry: those that `entry_of` reads, "11 to 15 zero"
abbrev pub words_of : Entry → List ℕ
words_of x =
    x.name1
    ∷ (x.name2
    ∷ (x.extension
    ∷ (x.uic
    ∷ (x.protect
    ∷ (x.kind ∷ (x.first.0 ∷ (x.length ∷ (x.last.0 ∷ (x.writer ∷ (x.readers ∷ (0 ∷ (0 ∷ (0 ∷ (0 ∷ (0 ∷ [])))))))))))))))
