-- A map kept up: a block taken is marked, a block given up is not, and the map says of each block what it said of the image before.
use Prim.Native.Nat.{ℕ, ◌+◌, ◌<◌}
use mathlib.Core.Path.{◌≡◌, refl, sym, ap, subst, ◌∙◌}
use mathlib.Core.List.{List}
use native.Mathlib.Omega.{arith}
use native.Mathlib.Decide.{ℕ_discrete}
use lib.Dec.{eqb}
use lib.ListN.{length, get_or, set}
use lib.Seq.{get_or-set_same, get_or-set_other}
use borrow.Author.Tests.{eq-eqb, ne_eqb}
use Rattle.pack.specs.declared.Geometry.{Geometry}
use Rattle.pack.specs.Geometry.{geometry_of}
use Rattle.pack.specs.File.{one}
use Rattle.pack.specs.Consistent.{held}
use Rattle.pack.specs.Owner.{FreeBlock}
use Rattle.room.specs.RoomMap.{Says, FreeOn}

one_here : (z b : ℕ) → z ≡ b → one (eqb z b) ≡ 1
one_here z b is = ap one (eq-eqb z b is)

one_else : (z b : ℕ) → (z ≡ b → ⊥) → one (eqb z b) ≡ 0
one_else z b other = ap one (ne_eqb z b other)

module _ (img img' map : List ℕ) (b : ℕ) (says : Says map img) (inside : b < length map) where
  -- only block b is held otherwise than before
  kept_up : (v : ℕ) → v ≡ held img' b → ((z : ℕ) → (z ≡ b → ⊥) → held img z ≡ held img' z) → Says (set map b v) img'
  kept_up v here else z = by (ℕ_discrete z b)
    where
      by : Dec (z ≡ b) → get_or (set map b v) z 0 ≡ held img' z
      by (yes is) = subst (λ (y : ℕ). get_or (set map b v) y 0 ≡ held img' y) (sym is) (get_or-set_same map b v 0 inside ∙ here)
      by (no other) = get_or-set_other map b z v 0 other ∙ (says z ∙ else z other)

  -- a block that nobody held and that is then held once
  pub map_added : ((z : ℕ) → held img' z ≡ held img z + one (eqb z b)) → held img b ≡ 0 → Says (set map b 1) img'
  map_added more nobody =
      kept_up 1 (omega (arith, more b, nobody, one_here b b refl)) (λ z other. omega (arith, more z, one_else z b other))

-- what is free in the image is free on the map
pub free_on_law : {img map : List ℕ} {g : Geometry} {b : ℕ} → Says map img → geometry_of img ≡ g → FreeBlock img b → FreeOn map g b
free_on_law {img} {map} {g} {b} says measures free =
    subst (λ (h : Geometry). FreeOn map h b) measures (record { body = free.body; below = free.below; nobody = says b ∙ free.nobody })
