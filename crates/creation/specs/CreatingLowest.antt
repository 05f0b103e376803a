-- Means: the lowest empty entry, as it is sought.
use Rattle.std.specs.Prelude.{ℕ, suc, zero, ◌+◌, Bool, cond, List}
use Rattle.std.proofs.Math.Option.{Option, none, some}
use Rattle.pack.specs.declared.Geometry.{Geometry}
use Rattle.pack.specs.Geometry.{geometry_of, slots, entry_at}
use Rattle.pack.specs.HeaderTest.{zeros}

-- "An empty entry is all zero."
abbrev pub is_empty : List ℕ → Geometry → ℕ → Bool
is_empty img g e = zeros img (entry_at g e) 16

-- "the lowest empty entry": the first of `k` entries from e on
unfoldable pub empty_from : List ℕ → Geometry → ℕ → ℕ → Option ℕ
empty_from img g e zero = none
empty_from img g e (suc k) = cond (is_empty img g e) (some e) (empty_from img g (e + 1) k)

unfoldable pub lowest_empty : List ℕ → Option ℕ
lowest_empty img = empty_from img (geometry_of img) 0 (slots (geometry_of img))
