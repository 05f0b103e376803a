-- Whose a block is: the same entry's, at the same place.
use Prim.Native.Nat.{ℕ, ◌+◌, ◌≤◌, ◌<◌}
use mathlib.Core.Path.{◌≡◌, refl, sym, ap, ◌∙◌}
use mathlib.Core.List.{List, [], ◌∷◌, map}
use mathlib.Core.Bool.{Bool, cond}
use mathlib.Core.Option.{Option, some}
use native.Mathlib.Omega.{arith}
use native.Mathlib.Decide.{ℕ_discrete}
use lib.Dec.{eqb, ltb}
use borrow.Author.Tests.{eq-eqb, ne_eqb, le-ltb}
use Rattle.pack.specs.declared.Geometry.{Geometry}
use Rattle.pack.specs.declared.Owner.TheVariants.{System}
use Rattle.pack.specs.Geometry.{geometry_of, slots}
use Rattle.pack.specs.File.{count}
use Rattle.pack.specs.Entry.{blocks_at}
use Rattle.pack.specs.Owner.{place_from, holder, owner_of}
use Rattle.pack.proofs.FileCount.{count_same, count_more}
use Rattle.frame.proofs.OwnerFramed.{holder_same, owner_at}
use Rattle.moving.specs.declared.Way.{Way}
use Rattle.moving.specs.Ways.{moved, renumbered}
use Rattle.moving.specs.Moved.{moved_measures, Moved}
use Rattle.moving.specs.Moving.{Movable}
use Rattle.moving.proofs.WayNumbers.{moved_by, moved_most, renumbered_some}
use Rattle.moving.proofs.MovedMeasures.{bodies_high, geometry_moved}
use Rattle.moving.proofs.SourceNumbers.{body}
use Rattle.moving.proofs.MovedFiles.{blocks_moved}

test_moved : (way : Way) (b x : ℕ) → 1 < b → 1 < x → eqb (moved way b) (renumbered way x) ≡ eqb b x
test_moved way b x low low₂ =
    let number = renumbered_some way x (omega (arith, low₂)) in
    elim (ℕ_discrete b x) [
      | yes is ↦ eq-eqb (moved way b) (renumbered way x) (ap (moved way) is ∙ sym number) ∙ sym (eq-eqb b x is)
      | no other ↦
          ne_eqb (moved way b) (renumbered way x)
          (λ same. other (omega (arith, same, number, moved_by way b (omega (arith, low)), moved_by way x (omega (arith, low₂)))))
          ∙ sym (ne_eqb b x other)
    ]

place_moved : (way : Way) (b p : ℕ) (xs : List ℕ) → 1 < b → ((x : ℕ) → 0 < count x xs → 1 < x) → place_from (moved way b) p (map (renumbered way) xs) ≡ place_from b p xs
place_moved way b p [] low high = refl
place_moved way b p (x ∷ xs) low high =
    ap (λ (t : Bool). cond t (some p) (place_from (moved way b) (p + 1) (map (renumbered way) xs))) (test_moved way b x low (high x (omega (arith, count_same x x xs refl))))
    ∙ ap (λ (o : Option ℕ). cond (eqb b x) (some p) o) (place_moved way b (p + 1) xs low (λ z more. high z (omega (arith, more, count_more z x xs))))

module _ {way : Way} {src dst : List ℕ} {g : Geometry} (stated : g ≡ geometry_of src) (movable : Movable way src) (m : Moved way src dst g) where
  pub owner_moved : (b : ℕ) → g.bodies.0 ≤ b → owner_of dst (moved way b) ≡ owner_of src b
  owner_moved b low =
      let high = bodies_high stated movable in
      owner_at dst (moved_measures way g) (moved way b) (geometry_moved stated movable m)
      ∙ (ap (λ (t : Bool). cond t System (holder dst (moved_measures way g) (moved way b) 0 (slots g)))
      (le-ltb (moved way b) (moved way g.bodies.0) (moved_most way g.bodies.0 b (omega (arith, high)) low) ∙ sym (le-ltb b g.bodies.0 low))
      ∙ (ap (cond (ltb b g.bodies.0) System)
      (holder_same src dst g (moved_measures way g) b (moved way b) 0 (slots g)
      (λ e from below.
      ap (place_from (moved way b) 0) (blocks_moved stated movable m e (omega arith))
      ∙ place_moved way b 0 (blocks_at src g e) (omega (arith, high, low)) (λ x has. (body stated movable e (omega arith) x has).0)))
      ∙ sym (owner_at src g b stated)))
