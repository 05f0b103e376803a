-- The file that a request names.
use Rattle.std.specs.Prelude.{ℕ, List}
use Rattle.answers.specs.Missing.{or_else}
use Rattle.pack.specs.declared.Entry.{Entry}
use Rattle.pack.specs.declared.Key.{Key}
use Rattle.pack.specs.Geometry.{geometry_of}
use Rattle.pack.specs.Entry.{entry_of}
use Rattle.asking.specs.KeysTest.{found}

-- the number of the entry that has the key, and the entry (`file_of_name`, proofs/Keys.antt); said only where there is one, for else code 2 comes first
unfoldable pub entry_no : List ℕ → Key → ℕ
entry_no img key = or_else 0 (found img key)

unfoldable pub file_of : List ℕ → Key → Entry
file_of img key = entry_of img (geometry_of img) (entry_no img key)
