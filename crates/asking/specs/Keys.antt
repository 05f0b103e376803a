-- The key of a file.
use Rattle.std.specs.Prelude.{ℕ, cond, eqb}
use Rattle.pack.specs.declared.Key.{Key}

-- "UIC 0 in a request means the caller's."
unfoldable pub key_of : ℕ → ℕ → ℕ → ℕ → ℕ → Key
key_of caller name1 name2 extension uic = record { name1 = name1; name2 = name2; extension = extension; uic = cond (eqb uic 0) caller uic }
