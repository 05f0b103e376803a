-- Whose a block is, where the named entries have it at the places where they had it.
use Prim.Native.Nat.{ℕ, suc, zero, ◌+◌, ◌≤◌, ◌<◌}
use mathlib.Core.Path.{◌≡◌, refl, sym, ap, ◌∙◌}
use mathlib.Core.List.{List}
use mathlib.Core.Bool.{cond}
use native.Mathlib.Omega.{arith}
use lib.Dec.{ltb}
use Rattle.pack.specs.declared.Geometry.{Geometry}
use Rattle.pack.specs.declared.Owner.{Owner}
use Rattle.pack.specs.declared.Owner.TheVariants.{System}
use Rattle.pack.specs.Geometry.{geometry_of, slots}
use Rattle.pack.specs.Entry.{blocks_at}
use Rattle.pack.specs.Consistent.{Consistent}
use Rattle.pack.specs.Owner.{place_from, held_or, holder, owner_of}
use Rattle.frame.specs.Framing.{Framed}
use Rattle.frame.proofs.FramedStays.{stated_framed, blocks_framed}

-- also of two images under two measures, and of a block that has another number there
pub holder_same : (img img' : List ℕ) (g g' : Geometry) (b b' e k : ℕ)
    → ((i : ℕ) → e ≤ i → i < e + k → place_from b' 0 (blocks_at img' g' i) ≡ place_from b 0 (blocks_at img g i)) → holder img' g' b' e k ≡ holder img g b e k
unfolding holder
holder_same img img' g g' b b' e zero places = refl
holder_same img img' g g' b b' e (suc k) places =
    ap (held_or e (holder img' g' b' (e + 1) k)) (places e (omega arith) (omega arith))
    ∙ ap (λ (other : Owner). held_or e other (place_from b 0 (blocks_at img g e)))
    (holder_same img img' g g' b b' (e + 1) k (λ i low high. places i (omega arith) (omega arith)))

pub owner_at : (img : List ℕ) (g : Geometry) (b : ℕ) → g ≡ geometry_of img → owner_of img b ≡ cond (ltb b g.bodies.0) System (holder img g b 0 (slots g))
unfolding owner_of
owner_at img g b stated = ap (λ (h : Geometry). cond (ltb b h.bodies.0) System (holder img h b 0 (slots h))) (sym stated)

pub owner_framed : {Named Written : ℕ → Type 0} {img img' : List ℕ} {g : Geometry} → g ≡ geometry_of img → Consistent img → Framed Named Written img img' g
    → ((e : ℕ) → Dec (Named e)) → (b : ℕ) → ((e : ℕ) → e < slots g → Named e → place_from b 0 (blocks_at img' g e) ≡ place_from b 0 (blocks_at img g e))
    → owner_of img' b ≡ owner_of img b
owner_framed {Named} {Written} {img} {img'} {g} stated consistent framed named b places =
    owner_at img' g b (stated_framed stated consistent framed)
    ∙ ap (cond (ltb b g.bodies.0) System) (holder_same img img' g g b b 0 (slots g) (λ e low high. place e (omega arith) (named e)))
    ∙ sym (owner_at img g b stated)
  where
    place : (e : ℕ) → e < slots g → Dec (Named e) → place_from b 0 (blocks_at img' g e) ≡ place_from b 0 (blocks_at img g e)
    place e within (yes is) = places e within is
    place e within (no other) = ap (place_from b 0) (blocks_framed stated consistent framed e within other)
