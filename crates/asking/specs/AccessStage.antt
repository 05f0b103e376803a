-- Means: what a stage answers that judged a file and the access to it.
use Rattle.std.specs.Prelude.{ℕ, Bool, List, ◌++◌}
use Rattle.pack.specs.declared.Entry.{Entry}
use Rattle.pack.specs.declared.Key.{Key}
use Rattle.asking.specs.declared.Right.{Right}
use Rattle.asking.specs.AskedStage.{Asked}
use Rattle.asking.specs.AskedStage.{file_rows, stage_of}
use Rattle.asking.specs.Asked.{file_of}
use Rattle.asking.specs.Access.{access_rows}

-- `closed` is what the request means by a file that is not open as it needs
abbrev pub accessed_of : List ℕ → Key → Bool → ℕ → Right → ℕ → (Entry → Bool) → Asked
accessed_of img key wrong caller right other closed =
    stage_of (file_rows img key wrong ++ access_rows (file_of img key) caller right other (closed (file_of img key))) img key
