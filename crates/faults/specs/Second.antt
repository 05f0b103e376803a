-- Means: the second file that reaches a block, as it is sought; `second_holder` ties it to `SecondHolder`.
use Rattle.std.specs.Prelude.{ℕ, suc, zero, ◌+◌, Bool, true, false, cond, List, ltb}
use Rattle.pack.specs.declared.Geometry.{Geometry}
use Rattle.pack.specs.Geometry.{geometry_of, slots}
use Rattle.pack.specs.File.{count}
use Rattle.pack.specs.Entry.{blocks_at}

-- of `k` entries from e on; `seen` says that one before them reaches the block
unfoldable pub second_from : List ℕ → Geometry → ℕ → Bool → ℕ → ℕ → ℕ
second_from img g b seen e zero = 0
second_from img g b seen e (suc k) =
    cond (ltb 0 (count b (blocks_at img g e))) (cond seen e (second_from img g b true (e + 1) k)) (second_from img g b seen (e + 1) k)

unfoldable pub second : List ℕ → ℕ → ℕ
second img b = second_from img (geometry_of img) b false 0 (slots (geometry_of img))
