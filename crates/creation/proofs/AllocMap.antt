-- ALLOC keeps up the map: where it said how often each block of a pack was held, it says so of what ALLOC leaves.
use Prim.Native.Nat.{ℕ}
use mathlib.Core.Path.{◌≡◌, sym, ap, subst, ◌∙◌}
use mathlib.Core.List.{List}
use native.Mathlib.Omega.{arith}
use native.Mathlib.Decide.{ℕ_discrete}
use Rattle.answers.proofs.Refusals.{success_is, refusal_is}
use Rattle.pack.specs.declared.Geometry.{Geometry}
use Rattle.pack.specs.declared.Key.{Key}
use Rattle.consistency.specs.Mapped.{Mapped, MappedIf}
use Rattle.consistency.proofs.ConsistentTestIff.{consistent_iff}
use Rattle.room.specs.RoomMap.{marked_from}
use Rattle.creation.specs.Rounding.{length_for}
use Rattle.creation.specs.Alloc.{start_for, alloc}
use Rattle.creation.specs.AllocMap.{alloc_map}
use Rattle.room.proofs.RoomMapMarked.{marked_long, map_marked}
use Rattle.creation.proofs.AllocStage.{Allocatable}
use Rattle.creation.proofs.AllocEffect.{alloc_refused, alloc_allocatable, code_rows_law, HeldRun, alloc_held}

module _ (map img : List ℕ) (key : Key) (caller protect segments : ℕ) where
  map_refused : ((alloc img key caller protect segments).code ≡ 0 → ⊥) → alloc_map map img key caller protect segments ≡ map
  unfolding alloc_map
  map_refused never = refusal_is _ _ (λ clear. never (code_rows_law img key caller protect segments ∙ clear))

  map_done : (alloc img key caller protect segments).code ≡ 0
      → alloc_map map img key caller protect segments ≡ marked_from map (start_for img segments) (length_for img segments)
  unfolding alloc_map
  map_done success = success_is _ _ (sym (code_rows_law img key caller protect segments) ∙ success)

  marked_mapped : Allocatable img key caller protect segments → HeldRun img key caller protect segments → Mapped map img
      → Mapped (marked_from map (start_for img segments) (length_for img segments)) (alloc img key caller protect segments).image
  marked_mapped a after m =
      record {
        enough = omega (
          arith,
          m.enough,
          marked_long map (start_for img segments) (length_for img segments),
          ap (λ (g : Geometry). g.blocks) after.measures,
        );
        says = map_marked img _ map (start_for img segments) (length_for img segments) m.says (omega (arith, a.inside, m.enough)) after.run after.others;
      }

  pub alloc_mapped : MappedIf map img → MappedIf (alloc_map map img key caller protect segments) (alloc img key caller protect segments).image
  alloc_mapped mapped = by (ℕ_discrete (alloc img key caller protect segments).code 0)
    where
      by : Dec ((alloc img key caller protect segments).code ≡ 0) → MappedIf (alloc_map map img key caller protect segments) (alloc img key caller protect segments).image
      by (yes success) =
          let a = alloc_allocatable img key caller protect segments success in
          λ test.
          subst (λ (m : List ℕ). Mapped m (alloc img key caller protect segments).image) (sym (map_done success))
          (marked_mapped a (alloc_held img key caller protect segments success) (mapped ((consistent_iff img).1 a.ready.right)))
      by (no never) =
          subst (λ (m : List ℕ). MappedIf m (alloc img key caller protect segments).image) (sym (map_refused never))
          (subst (MappedIf map) (sym (alloc_refused img key caller protect segments never).same_image) mapped)
