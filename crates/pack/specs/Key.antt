-- What names a file: "differ in name, extension or UIC".
use Rattle.std.specs.Prelude.{◌≡◌}
use Rattle.pack.specs.declared.Entry.{Entry}
use Rattle.pack.specs.declared.Key.{Key}

-- the name, extension and UIC of an entry
abbrev pub key_in : Entry → Key
key_in x = record { name1 = x.name1; name2 = x.name2; extension = x.extension; uic = x.uic }

-- one name (two words), extension and UIC; a UIC 0 of a request has given place to the caller's before
pub record SameKey (a b : Key) : Type 0 where
  pub name1 : a.name1 ≡ b.name1
  pub name2 : a.name2 ≡ b.name2
  pub extension : a.extension ≡ b.extension
  pub uic : a.uic ≡ b.uic
