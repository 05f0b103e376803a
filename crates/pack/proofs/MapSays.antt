-- That the map agrees with the files, said of numbers: the bit of each block is how often it is held, by the system or by files.
use Prim.Native.Nat.{ℕ, ◌+◌, ◌≤◌, ◌<◌}
use mathlib.Core.Path.{◌≡◌, sym, ap, ◌∙◌}
use mathlib.Core.List.{List}
use mathlib.Core.Logic.{◌⊎◌, inl, inr, ◌↔◌}
use native.Mathlib.Omega.{arith}
use native.Mathlib.Decide.{ℕ_discrete, dec_lt}
use borrow.Author.Tests.{lt-ltb, le-ltb}
use Rattle.pack.specs.declared.Geometry.{Geometry}
use Rattle.pack.specs.GeometrySized.{Sized}
use Rattle.pack.specs.File.{one, count}
use Rattle.pack.specs.Map.{HasMap, map_bits, map_bit, bits_set}
use Rattle.pack.specs.Consistent.{held_in, MapAgrees}
use Rattle.pack.specs.MapSays.{MapSays, marking}
use Rattle.pack.proofs.MapSet.{bits_set_in, bits_set_out}

module _ (img : List ℕ) (g : Geometry) where
  -- a block of the system, and any other
  pub marking_system : (b : ℕ) → b < g.bodies.0 → marking img g b ≡ 1 + held_in img g b
  unfolding marking
  marking_system b own = omega (arith, ap one (lt-ltb b g.bodies.0 own))

  pub marking_body : (b : ℕ) → g.bodies.0 ≤ b → marking img g b ≡ held_in img g b
  unfolding marking
  marking_body b from = omega (arith, ap one (le-ltb b g.bodies.0 from))

  marked : (b : ℕ) → 0 < marking img g b → (b < g.bodies.0) ⊎ (0 < held_in img g b)
  marked b some = by (dec_lt b g.bodies.0)
    where
      by : Dec (b < g.bodies.0) → (b < g.bodies.0) ⊎ (0 < held_in img g b)
      by (yes own) = inl own
      by (no other) = inr (omega (arith, some, marking_body b (omega (arith, other))))

  marks : (b : ℕ) → (b < g.bodies.0) ⊎ (0 < held_in img g b) → 0 < marking img g b
  marks b (inl own) = omega (arith, marking_system b own)
  marks b (inr some) = by (dec_lt b g.bodies.0)
    where
      by : Dec (b < g.bodies.0) → 0 < marking img g b
      by (yes own) = omega (arith, marking_system b own)
      by (no other) = omega (arith, some, marking_body b (omega (arith, other)))

  bit_small : (b : ℕ) → map_bit img g b ≤ 1
  unfolding map_bit
  bit_small b = omega arith

  -- where no block is held twice
  pub agrees_says : ((b : ℕ) → marking img g b ≤ 1) → MapAgrees img g ↔ MapSays img g (marking img g)
  agrees_says once = (λ agrees. record { is = λ there b within. to b (agrees.bit there b within) (dec_lt 0 (marking img g b)) }, from)
    where
      to : (b : ℕ) → (map_bit img g b ≡ 1) ↔ ((b < g.bodies.0) ⊎ (0 < held_in img g b)) → Dec (0 < marking img g b) → map_bit img g b ≡ marking img g b
      to b agree (yes some) = omega (arith, agree.1 (marked b some), once b, some)
      to b agree (no none) = zero (ℕ_discrete (map_bit img g b) 1)
        where
          zero : Dec (map_bit img g b ≡ 1) → map_bit img g b ≡ marking img g b
          zero (yes is) = absurd (none (marks b (agree.0 is)))
          zero (no not) = omega (arith, none, not, bit_small b)

      from : MapSays img g (marking img g) → MapAgrees img g
      from says =
          record {
            bit = λ there b within. (
              λ is. marked b (omega (arith, is, says.is there b within)),
              λ some. omega (arith, says.is there b within, marks b some, once b),
            );
          }

-- other names of the same bits
pub says_same : {img : List ℕ} {g : Geometry} {bit bit' : ℕ → ℕ} → MapSays img g bit → ((b : ℕ) → bit b ≡ bit' b) → MapSays img g bit'
says_same says same = record { is = λ there b within. says.is there b within ∙ same b }

-- bits made v: those of the blocks in the list are v, the others as they were
pub says_set : {img : List ℕ} {g : Geometry} {bit bit' : ℕ → ℕ} (v : ℕ) → v ≤ 1 → Sized img g → MapSays img g bit → (bs : List ℕ)
    → ((b : ℕ) → 0 < count b bs → b < g.blocks) → ((b : ℕ) → 0 < count b bs → bit' b ≡ v) → ((b : ℕ) → count b bs ≡ 0 → bit' b ≡ bit b)
    → MapSays (bits_set img g bs v) g bit'
says_set {img} {g} {bit} {bit'} v small s says bs below among others = record { is = λ there b within. by there b within (dec_lt 0 (count b bs)) }
  where
    by : HasMap g → (b : ℕ) → b < map_bits g → Dec (0 < count b bs) → map_bit (bits_set img g bs v) g b ≡ bit' b
    by there b within (yes some) = bits_set_in v small bs img s below there b some ∙ sym (among b some)
    by there b within (no none) =
        let zero : count b bs ≡ 0 = omega (arith, none) in
        bits_set_out v small bs img s below b zero ∙ says.is there b within ∙ sym (others b zero)
