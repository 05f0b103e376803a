-- Means: is the file of an entry one that Finish removes, and the keys of those that are, in stored order; `scratch_iff` and `keys_listed` (proofs/ScratchTestIff.antt)
-- tie them to `Scratch` and `ScratchFrom`.
use Rattle.std.specs.Prelude.{ℕ, suc, zero, ◌+◌, ◌/◌, ◌%◌, Bool, cond, not, ◌&&◌, List, [], ◌∷◌, eqb}
use Rattle.pack.specs.declared.Entry.{Entry}
use Rattle.pack.specs.declared.Geometry.{Geometry}
use Rattle.pack.specs.declared.Key.{Key}
use Rattle.pack.specs.Geometry.{geometry_of, slots}
use Rattle.pack.specs.Key.{key_in}
use Rattle.pack.specs.Entry.{entry_of}
use Rattle.asking.specs.declared.Right.TheVariants.{Delete}
use Rattle.asking.specs.RightsTest.{may}
use Rattle.asking.specs.OpensTest.{is_open}

-- an empty entry's first word is 0; it has UIC 0 too, which a caller may have
unfoldable pub is_scratch : ℕ → Entry → Bool
is_scratch caller x =
    not (eqb x.name1 0)
    && (eqb x.uic caller && (eqb ((x.protect / 128) % 2) 0 && (not (is_open x) && may Delete caller x.uic x.protect)))

-- the keys of such files among `k` entries from e on
unfoldable pub keys_from : List ℕ → Geometry → ℕ → ℕ → ℕ → List Key
keys_from img g caller e zero = []
keys_from img g caller e (suc k) =
    cond (is_scratch caller (entry_of img g e)) (key_in (entry_of img g e) ∷ keys_from img g caller (e + 1) k) (keys_from img g caller (e + 1) k)

unfoldable pub scratch_keys : List ℕ → ℕ → List Key
scratch_keys img caller = keys_from img (geometry_of img) caller 0 (slots (geometry_of img))
