-- Means: the fields of an entry are words, so that the code can write them and no sum of two of them is too large for it.
use Rattle.std.specs.Prelude.{ℕ, ◌<◌, ◌≡◌, List, [], ◌∷◌, length}
use Rattle.pack.specs.declared.Entry.{Entry}

pub record WordFields (x : Entry) : Type 0 where
  pub name1 : x.name1 < 65536
  pub name2 : x.name2 < 65536
  pub extension : x.extension < 65536
  pub uic : x.uic < 65536
  pub protect : x.protect < 65536
  pub kind : x.kind < 65536
  pub first : x.first.0 < 65536
  pub length : x.length < 65536
  pub last : x.last.0 < 65536
  pub writer : x.writer < 65536
  pub readers : x.readers < 65536

-- numbers that are words, one after another
infixr 5 ◌then◌
pub data Words : List ℕ → Type 0 where
  end : Words []
  ◌then◌ : {word : ℕ} {more : List ℕ} → word < 65536 → Words more → Words (word ∷ more)

-- what can be written as an entry
pub record SixteenWords (words : List ℕ) : Type 0 where
  pub long : length words ≡ 16
  pub small : Words words
