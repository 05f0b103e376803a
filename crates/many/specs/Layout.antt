-- Records as bytes. Document 02 §9: "From C they come as bytes, 16 words a record"; record i is words 16i to 16i + 15. The layout is drawn in docs/MANY.md.
use Rattle.std.specs.Prelude.{ℕ, zero, suc, ◌+◌, ◌*◌, List, [], ◌∷◌, ◌++◌}
use Rattle.words.specs.Word.{word_at}
use Rattle.listed.specs.declared.Record.{Record}

-- words 10 to 15 are not looked at
unfoldable pub record_at : List ℕ → ℕ → Record
record_at bytes i =
    record {
      request = word_at bytes (16 * i);
      caller = word_at bytes (16 * i + 1);
      name1 = word_at bytes (16 * i + 2);
      name2 = word_at bytes (16 * i + 3);
      extension = word_at bytes (16 * i + 4);
      uic = word_at bytes (16 * i + 5);
      word6 = word_at bytes (16 * i + 6);
      word7 = word_at bytes (16 * i + 7);
      word8 = word_at bytes (16 * i + 8);
      word9 = word_at bytes (16 * i + 9);
    }

-- the first records of a list of bytes, so many
unfoldable pub records_in : List ℕ → ℕ → List Record
records_in bytes zero = []
records_in bytes (suc count) = records_in bytes count ++ (record_at bytes count ∷ [])
