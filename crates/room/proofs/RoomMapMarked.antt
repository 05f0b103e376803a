-- A map with the blocks of a run marked: it has as many places, the blocks of the run are held once, and of every other it says what it said.
use Prim.Native.Nat.{ℕ, suc, zero, ◌+◌, ◌≤◌, ◌<◌}
use mathlib.Core.Path.{◌≡◌, refl, sym, ap, ◌∙◌}
use mathlib.Core.List.{List}
use native.Mathlib.Omega.{arith}
use native.Mathlib.Decide.{ℕ_discrete, dec_le, dec_lt}
use lib.ListN.{length, get_or, set, length-set}
use lib.Seq.{get_or-set_same, get_or-set_other}
use Rattle.pack.specs.Consistent.{held}
use Rattle.room.specs.Room.{InRun}
use Rattle.room.specs.RoomMap.{Says, marked_from}

module _ (map : List ℕ) (b : ℕ) where
  pub marked_long : (k : ℕ) → length (marked_from map b k) ≡ length map
  unfolding marked_from
  marked_long zero = refl
  marked_long (suc k) = length-set (marked_from map b k) (b + k) 1 ∙ marked_long k

  pub marked_else : (k z : ℕ) → (InRun b k z → ⊥) → get_or (marked_from map b k) z 0 ≡ get_or map z 0
  unfolding marked_from
  marked_else zero z outside = refl
  marked_else (suc k) z outside =
      get_or-set_other (marked_from map b k) (b + k) z 1 0 (λ is. outside (omega (arith, is), omega (arith, is)))
      ∙ marked_else k z (λ run. outside (run.0, omega (arith, run.1)))

  marked_here : (k z : ℕ) → b + k ≤ length map → InRun b k z → get_or (marked_from map b k) z 0 ≡ 1
  unfolding marked_from
  marked_here zero z room run = absurd (omega (arith, run.0, run.1))
  marked_here (suc k) z room run = by (ℕ_discrete z (b + k)) (marked_here k z (omega (arith, room)))
    where
      by : Dec (z ≡ b + k) → (InRun b k z → get_or (marked_from map b k) z 0 ≡ 1) → get_or (set (marked_from map b k) (b + k) 1) z 0 ≡ 1
      by (yes here) earlier =
          ap (λ (y : ℕ). get_or (set (marked_from map b k) (b + k) 1) y 0) here
          ∙ get_or-set_same (marked_from map b k) (b + k) 1 0 (omega (arith, room, marked_long k))
      by (no other) earlier = get_or-set_other (marked_from map b k) (b + k) z 1 0 other ∙ earlier (run.0, omega (arith, run.1, other))

in_run : (b k z : ℕ) → Dec (InRun b k z)
in_run b k z = by (dec_le b z) (dec_lt z (b + k))
  where
    by : Dec (b ≤ z) → Dec (z < b + k) → Dec (InRun b k z)
    by (yes low) (yes high) = yes (low, high)
    by (yes low) (no never) = no (λ run. never run.1)
    by (no never) d = no (λ run. never run.0)

-- blocks of a run that are then held once, where every other block is held as often as before
pub map_marked : (img img' map : List ℕ) (b k : ℕ) → Says map img → b + k ≤ length map → ((z : ℕ) → InRun b k z → held img' z ≡ 1)
    → ((z : ℕ) → (InRun b k z → ⊥) → held img' z ≡ held img z) → Says (marked_from map b k) img'
map_marked img img' map b k says room run others z = by (in_run b k z)
  where
    by : Dec (InRun b k z) → get_or (marked_from map b k) z 0 ≡ held img' z
    by (yes inside) = marked_here map b k z room inside ∙ sym (run z inside)
    by (no outside) = marked_else map b k z outside ∙ (says z ∙ sym (others z outside))
