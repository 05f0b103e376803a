-- One block is needed: there is none exactly if no run of one block is free, and exactly if no block is.
use Prim.Native.Nat.{ℕ, ◌≤◌, ◌<◌}
use mathlib.Core.Path.{◌≡◌, refl, ap, subst}
use mathlib.Core.Logic.{◌↔◌}
use mathlib.Core.List.{List}
use mathlib.Core.Option.{none}
use native.Mathlib.Omega.{arith}
use Rattle.pack.specs.declared.Owner.{Owner}
use Rattle.pack.specs.declared.Owner.TheVariants.{System, Free, Held}
use Rattle.pack.specs.Geometry.{geometry_of}
use Rattle.pack.specs.File.{one}
use Rattle.pack.specs.Consistent.{Consistent}
use Rattle.pack.specs.Owner.{owner_of, is_free, free_count, FreeBlock}
use Rattle.pack.proofs.ConsistentTotal.{total_same, total_each, total_has}
use Rattle.owners.proofs.OneOwner.{owner_free}
use Rattle.owners.proofs.OwnerSum.{one_free, free_total}
use Rattle.room.specs.RoomTest.{highest_run}
use Rattle.room.specs.Room.{FreeRun}
use Rattle.room.proofs.RoomHighest.{run_none}

module _ (img : List ℕ) where
  -- a run of one block
  run_block : (b : ℕ) → FreeRun img 1 b → FreeBlock img b
  run_block b run = run.free b (omega arith) (omega arith)

  block_run : (b : ℕ) → FreeBlock img b → FreeRun img 1 b
  block_run b free = record { free = λ x low high. let same : b ≡ x = omega arith in subst (FreeBlock img) same free }

  pub run_of_one : highest_run img 1 ≡ none ↔ ((b : ℕ) → FreeBlock img b → ⊥)
  run_of_one = (
    λ is b free. (run_none img 1 (omega arith)).0 is b (block_run b free),
    λ never. (run_none img 1 (omega arith)).1 (λ b run. never b (run_block b run)),
  )

module _ {img : List ℕ} (right : Consistent img) where
  free_counted : (b : ℕ) → FreeBlock img b → 1 ≤ free_count img
  free_counted b free =
      let owned : one_free img b ≡ 1 = ap (λ (o : Owner). one (is_free o)) ((owner_free right b).1 (free.body, free.nobody)) in
      omega (
        arith,
        free_total img (geometry_of img).blocks,
        total_has (one_free img) b 0 (geometry_of img).blocks (omega arith) (omega (arith, free.below)),
        owned,
      )

  -- a block below the blocks in all that is nobody's is free
  not_counted : ((b : ℕ) → FreeBlock img b → ⊥) → (b : ℕ) → b < (geometry_of img).blocks → one_free img b ≡ 0
  not_counted never b below = by (owner_of img b) refl
    where
      by : (o : Owner) → owner_of img b ≡ o → one (is_free o) ≡ 0
      by System is = refl
      by Free is = let free = (owner_free right b).0 is in absurd (never b (record { body = free.0; below = below; nobody = free.1 }))
      by (Held e p) is = refl

  pub none_free : free_count img < 1 ↔ ((b : ℕ) → FreeBlock img b → ⊥)
  none_free = (
    λ few b free. omega (arith, few, free_counted b free),
    λ never. omega (
      arith,
      free_total img (geometry_of img).blocks,
      total_same (one_free img) (λ b. 0) 0 (geometry_of img).blocks (λ b low high. not_counted never b (omega arith)),
      total_each 0 0 (geometry_of img).blocks,
    ),
  )

  pub needs_one : free_count img < 1 ↔ highest_run img 1 ≡ none
  needs_one = (λ few. (run_of_one img).1 (none_free.0 few), λ nowhere. none_free.1 ((run_of_one img).0 nowhere))
