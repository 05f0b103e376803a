-- APPND.
use Rattle.std.specs.Prelude.{ℕ, ◌+◌, cond, List, [], eqb}
use Rattle.words.specs.Word.{set_word}
use Rattle.pack.specs.declared.Geometry.{Geometry}
use Rattle.pack.specs.declared.Entry.{Entry}
use Rattle.pack.specs.declared.Key.{Key}
use Rattle.pack.specs.Geometry.{geometry_of, block_at}
use Rattle.asking.specs.Outcome.{Outcome, settled}
use Rattle.asking.specs.Asked.{entry_no, file_of}
use Rattle.pack.specs.EntryWords.{clear_entry}
use Rattle.bodies.specs.EntryChain.{resized}
use Rattle.appending.specs.AppndRows.{appnd_rows}

-- "chain joined .. Either may be empty.": an empty second file changes nothing of the first; an empty first file takes the second's
-- blocks as they are; else the link of the first's last block leads on to the second's first. A reading easily got wrong is
-- "Joining an empty file by writing a link into block 0."
unfoldable pub chain_joined : List ℕ → Geometry → ℕ → Entry → Entry → List ℕ
chain_joined img g e x y =
    cond (eqb y.length 0) img
    (cond (eqb x.length 0)
    (resized img g e y.first.0 y.length y.last.0)
    (resized (set_word img (block_at g x.last.0) y.first.0) g e x.first.0 (x.length + y.length) y.last.0))

-- "second entry cleared"
unfoldable pub appnd : List ℕ → Key → Key → ℕ → Outcome
appnd img first second caller =
    settled (appnd_rows img first second caller) img []
    (record {
      code = 0;
      numbers = [];
      image =
          clear_entry (chain_joined img (geometry_of img) (entry_no img first) (file_of img first) (file_of img second)) (geometry_of img) (entry_no img second);
      buffer = [];
    })
