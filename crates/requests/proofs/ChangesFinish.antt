-- Finish changes words of the entries that it clears, those of the map with the bits of their blocks, and no other.
use Prim.Native.Nat.{ℕ}
use mathlib.Core.Path.{refl, ap}
use mathlib.Core.Logic.{inl, inr}
use mathlib.Core.List.{List, []}
use native.Mathlib.Omega.{arith}
use Rattle.pack.specs.Geometry.{geometry_of, slots}
use Rattle.pack.specs.File.{count}
use Rattle.directory.proofs.Deleted.{deleted_changes}
use Rattle.finishing.specs.ScratchTest.{scratch_keys}
use Rattle.finishing.specs.FinishRows.{finish_rows}
use Rattle.finishing.specs.Finish.{finish}
use Rattle.finishing.proofs.ScratchTestIff.{scratch_iff}
use Rattle.finishing.proofs.FinishSwept.{swept_each}
use Rattle.finishing.proofs.FinishEffect.{clear_right}
use Rattle.requests.specs.Request.{FINISH}
use Rattle.requests.specs.Changes.{MayChange}
use Rattle.frame.specs.Framed.{ChangesOnly}
use Rattle.frame.proofs.ChangesWritten.{changes_nothing, changes_then}
use Rattle.requests.proofs.ChangesWritten.{changes_settled}

pub finish_changes : (img : List ℕ) (caller : ℕ) → ChangesOnly (MayChange (FINISH caller) img) img (finish img caller).image
unfolding finish scratch_keys
finish_changes img caller =
    changes_settled (finish_rows img) img [] _
    (λ clear.
    let right = clear_right clear in
    swept_each caller (ChangesOnly (MayChange (FINISH caller) img) img) (slots (geometry_of img)) img refl right 0 (omega arith)
    (λ i inside is mid same done.
    let scratch = (scratch_iff right caller i inside).0 is in
    changes_then done
    (deleted_changes mid (geometry_of img) i (λ w at. (i, (scratch, inl at)))
    (λ z w some on. (i, (scratch, inr (z, (omega (arith, some, ap (count z) same), on)))))))
    changes_nothing)
