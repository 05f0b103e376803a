-- DELET keeps the map up: what it leaves on it says how often each block is held in the image that it leaves.
use Prim.Native.Nat.{ℕ}
use mathlib.Core.Path.{◌≡◌, refl, sym, ap, subst₂}
use mathlib.Core.List.{List, []}
use native.Mathlib.Omega.{arith}
use native.Mathlib.Decide.{ℕ_discrete}
use Rattle.answers.specs.Refusals.{first_of}
use Rattle.answers.proofs.Refusals.{success_is, refusal_is}
use Rattle.pack.specs.declared.Geometry.{Geometry}
use Rattle.pack.specs.declared.Key.{Key}
use Rattle.pack.specs.Entry.{blocks_at}
use Rattle.consistency.specs.Mapped.{Mapped, MappedIf}
use Rattle.consistency.proofs.ConsistentTestIff.{consistent_iff}
use Rattle.asking.proofs.AskedCleared.{Cleared}
use Rattle.asking.proofs.Outcome.{success_image, refused_answer}
use Rattle.room.specs.RoomMap.{unmarked}
use Rattle.room.proofs.RoomMapGiven.{unmarked_long, map_given}
use Rattle.directory.specs.DeletRows.{delet_rows}
use Rattle.directory.specs.Delet.{deleted, delet}
use Rattle.directory.specs.DeletMap.{delet_map}
use Rattle.directory.proofs.DeletStage.{delet_cleared}
use Rattle.directory.proofs.Deleted.{deleted_stated, deleted_held}

-- the file gone, and its blocks given up
gone_mapped : {map img : List ℕ} {key : Key} {g : Geometry} {e : ℕ} → Cleared img key g e → Mapped map img
    → Mapped (unmarked map (blocks_at img g e)) (deleted img g e)
gone_mapped {map} {img} {key} {g} {e} c mapped =
    let enough = mapped.enough in
    let stated = ap (λ (h : Geometry). h.blocks) c.measures in
    record {
      enough = omega (arith, enough, stated, ap (λ (h : Geometry). h.blocks) (deleted_stated c.measures c.right e c.inside), unmarked_long (blocks_at img g e) map);
      says =
          map_given img (deleted img g e) map (blocks_at img g e) mapped.says (λ z some. omega (arith, (c.used.bodies z some).1, enough, stated))
          (deleted_held c.measures c.right e c.inside) c.right.once;
    }

module _ (map img : List ℕ) (key : Key) (caller : ℕ) where
  pub delet_mapped : MappedIf map img → MappedIf (delet_map map img key caller) (delet img key caller).image
  unfolding delet delet_map
  delet_mapped mapped = by (ℕ_discrete (first_of (delet_rows img key caller)) 0)
    where
      by : Dec (first_of (delet_rows img key caller) ≡ 0) → MappedIf (delet_map map img key caller) (delet img key caller).image
      by (yes passed) =
          let c = delet_cleared img key caller passed in
          subst₂ MappedIf (sym (success_is _ map passed)) (sym (success_image (delet_rows img key caller) img [] _ passed))
          (λ still. gone_mapped c (mapped ((consistent_iff img).1 c.right)))
      by (no never) = subst₂ MappedIf (sym (refusal_is _ map never)) (refused_answer (delet_rows img key caller) img [] _ refl never).2 mapped
