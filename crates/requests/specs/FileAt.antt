-- Where a file is: the entry in use that has its name, extension and UIC.
use Rattle.std.specs.Prelude.{ℕ, ◌<◌, List}
use Rattle.pack.specs.declared.Key.{Key}
use Rattle.pack.specs.Geometry.{geometry_of, slots}
use Rattle.pack.specs.Key.{key_in, SameKey}
use Rattle.pack.specs.Entry.{entry_of, Empty}

pub record FileAt (img : List ℕ) (who : Key) (e : ℕ) : Type 0 where
  pub inside : e < slots (geometry_of img)
  pub used : Empty img (geometry_of img) e → ⊥
  pub keyed : SameKey (key_in (entry_of img (geometry_of img) e)) who

-- it is not there: no entry in use has its name, extension and UIC
abbrev pub NoFile : List ℕ → Key → Type 0
NoFile img who = (e : ℕ) → FileAt img who e → ⊥
