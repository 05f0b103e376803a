-- Means: is a key legal, and which entry has it? `legal_iff`, `found_iff`, `absent_iff` (proofs/Keys.antt) tie them to the rules and the entries.
use Rattle.std.specs.Prelude.{Bool, ◌&&◌, cond, ℕ, suc, zero, ◌+◌, List}
use Rattle.radix.specs.NamesTest.{legal_name, legal_extension}
use Rattle.pack.specs.declared.Key.{Key}
use Rattle.std.proofs.Math.Option.{Option, none, some}
use Rattle.pack.specs.declared.Geometry.{Geometry}
use Rattle.pack.specs.Geometry.{geometry_of, slots}
use Rattle.pack.specs.KeyTest.{same_key}
use Rattle.pack.specs.Key.{key_in}
use Rattle.pack.specs.Entry.{entry_of}

-- the first of `k` entries from e on that has the key; an empty entry has no legal key
unfoldable pub find_from : List ℕ → Geometry → Key → ℕ → ℕ → Option ℕ
find_from img g key e zero = none
find_from img g key e (suc k) = cond (same_key (key_in (entry_of img g e)) key) (some e) (find_from img g key (e + 1) k)

-- the entry of a key in an image
unfoldable pub found : List ℕ → Key → Option ℕ
found img key = find_from img (geometry_of img) key 0 (slots (geometry_of img))

unfoldable pub legal_key : Key → Bool
legal_key key = legal_name key.name1 key.name2 && legal_extension key.extension
