-- Means: one key as a test; `same_key_iff` (proofs/KeySame.antt) ties it to `SameKey`.
use Rattle.std.specs.Prelude.{Bool, ◌&&◌, eqb}
use Rattle.pack.specs.declared.Key.{Key}

-- the same as a test (proofs/KeySame.antt, `same_key_iff`)
unfoldable pub same_key : Key → Key → Bool
same_key a b = eqb a.name1 b.name1 && (eqb a.name2 b.name2 && (eqb a.extension b.extension && eqb a.uic b.uic))
