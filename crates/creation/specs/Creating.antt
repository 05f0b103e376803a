-- What ALLOC and OPENO share: what speaks against a new file, the entry that it gets, and what is written there.
use Rattle.std.specs.Prelude.{ℕ, ◌<◌, List}
use Rattle.answers.specs.Missing.{or_else}
use Rattle.pack.specs.declared.Key.{Key}
use Rattle.pack.specs.declared.Entry.{Entry}
use Rattle.pack.specs.Geometry.{geometry_of, slots}
use Rattle.pack.specs.Entry.{Empty}
use Rattle.pack.specs.EntryWords.{set_entry_words, words_of}
use Rattle.creation.specs.declared.creating.Shape.{Shape}
use Rattle.creation.specs.CreatingLowest.{lowest_empty}

-- "the lowest empty entry"; `empty_lowest` and `empty_none` (proofs/CreatingLowest.antt) say that `lowest_empty` is just this
pub record LowestEmpty (img : List ℕ) (e : ℕ) : Type 0 where
  pub inside : e < slots (geometry_of img)
  pub empty : Empty img (geometry_of img) e
  pub lowest : (f : ℕ) → f < e → Empty img (geometry_of img) f → ⊥

-- the entry that a new file gets
abbrev pub entry_for : List ℕ → ℕ
entry_for img = or_else 0 (lowest_empty img)

-- the entry of a new file, of what it has besides its key and its protect code; "readers 0"
abbrev pub new_file : Key → ℕ → Shape → Entry
new_file key protect shape =
    record {
      name1 = key.name1;
      name2 = key.name2;
      extension = key.extension;
      uic = key.uic;
      protect = protect;
      kind = shape.kind;
      first = shape.first;
      length = shape.length;
      last = shape.last;
      writer = shape.writer;
      readers = 0;
    }

-- the image with the words of that entry in the lowest empty one
unfoldable pub created : List ℕ → Entry → List ℕ
created img x = set_entry_words img (geometry_of img) (entry_for img) 0 (words_of x)
