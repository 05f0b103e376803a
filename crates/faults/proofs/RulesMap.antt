-- The rule of the map: it holds of every block exactly if the map agrees, and where it fails there is a map and the block's bit is wrong.
use Prim.Native.Nat.{ℕ, ◌+◌, ◌<◌}
use mathlib.Core.Path.{◌≡◌}
use mathlib.Core.List.{List}
use mathlib.Core.Logic.{inl, inr, ⊎_elim, ◌↔◌}
use native.Mathlib.Decide.{ℕ_discrete, dec_lt}
use Rattle.pack.specs.Geometry.{geometry_of}
use Rattle.pack.specs.Map.{HasMap, map_bits, map_bit}
use Rattle.pack.specs.Consistent.{held, MapAgrees}
use Rattle.faults.specs.Rules.{map, Taken, Holds}
use Rattle.faults.specs.FaultThere.{WrongBit, marked, unmarked}

module _ (img : List ℕ) where
  pub map_agrees : ((b : ℕ) → b < map_bits (geometry_of img) → Holds img (map b)) ↔ MapAgrees img (geometry_of img)
  unfolding held
  map_agrees = (λ holds. record { bit = λ there b within. holds b within there }, λ agrees b within there. agrees.bit there b within)

  pub bit_fails : (b : ℕ) → (Holds img (map b) → ⊥) → HasMap (geometry_of img) × WrongBit img b
  bit_fails b fails = by (dec_lt ((geometry_of img).contents + 1) (geometry_of img).bodies.0) (ℕ_discrete (map_bit img (geometry_of img) b) 1) taken
    where
      taken : Dec (Taken img b)
      taken = of (dec_lt b (geometry_of img).bodies.0) (dec_lt 0 (held img b))
        where
          of : Dec (b < (geometry_of img).bodies.0) → Dec (0 < held img b) → Dec (Taken img b)
          of (yes own) some = yes (inl own)
          of (no other) (yes some) = yes (inr some)
          of (no other) (no none) = no (λ either. ⊎_elim other none either)

      by : Dec (HasMap (geometry_of img)) → Dec (map_bit img (geometry_of img) b ≡ 1) → Dec (Taken img b) → HasMap (geometry_of img) × WrongBit img b
      by (yes there) (yes is) (yes own) = absurd (fails (λ same. (λ one. own, λ some. is)))
      by (yes there) (yes is) (no free) = (there, marked is free)
      by (yes there) (no not) (yes own) = (there, unmarked not own)
      by (yes there) (no not) (no free) = absurd (fails (λ same. (λ one. absurd (not one), λ some. absurd (free some))))
      by (no none) bit own = absurd (fails (λ there. absurd (none there)))
