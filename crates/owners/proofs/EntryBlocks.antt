-- The blocks of an entry: as many as its stored length, and in a consistent image all of them bodies.
use Prim.Native.Nat.{ℕ, ◌≤◌, ◌<◌}
use mathlib.Core.Path.{◌≡◌, ◌∙◌}
use mathlib.Core.Logic.{inl, inr}
use mathlib.Core.List.{List, [], ◌∷◌}
use native.Mathlib.Omega.{arith}
use lib.ListN.{length}
use Rattle.pack.specs.declared.Geometry.{Geometry}
use Rattle.pack.specs.Geometry.{geometry_of, slots}
use Rattle.pack.specs.File.{blocks_of, count}
use Rattle.pack.specs.Entry.{entry_of, blocks_at, Empty, RightEntry}
use Rattle.pack.specs.Consistent.{Consistent}
use Rattle.pack.proofs.FileCount.{count_nil}
use Rattle.pack.proofs.FileChain.{chain_length}
use Rattle.pack.proofs.EntryRead.{empty_length}

pub blocks_length : (img : List ℕ) (g : Geometry) (e : ℕ) → length (blocks_at img g e) ≡ (entry_of img g e).length
unfolding blocks_of
blocks_length img g e = chain_length _ _ _

-- the file of an empty entry reaches no block
pub empty_reaches : (img : List ℕ) (g : Geometry) (b e : ℕ) → Empty img g e → count b (blocks_at img g e) ≡ 0
empty_reaches img g b e empty = by (blocks_at img g e) (blocks_length img g e ∙ empty_length img g e empty)
  where
    by : (xs : List ℕ) → length xs ≡ 0 → count b xs ≡ 0
    by [] short = count_nil b
    by (x ∷ xs) short = absurd (omega arith)

pub reaches_bodies : {img : List ℕ} (b e : ℕ) → Consistent img → e < slots (geometry_of img) → 0 < count b (blocks_at img (geometry_of img) e)
    → ((geometry_of img).bodies.0 ≤ b) × (b < (geometry_of img).blocks)
reaches_bodies {img} b e right inside reached = by (right.entries e inside)
  where
    by : RightEntry img (geometry_of img) e → ((geometry_of img).bodies.0 ≤ b) × (b < (geometry_of img).blocks)
    by (inl empty) = absurd (omega (arith, empty_reaches img (geometry_of img) b e empty))
    by (inr used) = used.bodies b reached
