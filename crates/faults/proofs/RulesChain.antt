-- The blocks of a chain by their places: a block that is counted stands at a place, one that is counted twice at two.
use Prim.Native.Nat.{ℕ, suc, zero, ◌≤◌, ◌<◌}
use mathlib.Core.Path.{◌≡◌, refl, sym, ◌∙◌}
use native.Mathlib.Omega.{arith}
use native.Mathlib.Decide.{ℕ_discrete, dec_lt}
use Rattle.pack.specs.File.{chain, after, last_of, count}
use Rattle.pack.proofs.FileChain.{chain_length}
use Rattle.pack.proofs.FileCount.{count_nil, count_same, count_other, count_at, count_two}
use Rattle.frame.proofs.FileChainWays.{chain_place}

-- a block stands at a place of the `k` from b on
pub record Stands (f : ℕ → ℕ) (k b z : ℕ) : Type 0 where
  pub place : ℕ
  pub within : place < k
  pub is : after f place b ≡ z

-- and at two
pub record Again (f : ℕ → ℕ) (k b z : ℕ) : Type 0 where
  pub first : ℕ
  pub second : ℕ
  pub less : first < second
  pub within : second < k
  pub is : after f first b ≡ z
  pub also : after f second b ≡ z

module _ (f : ℕ → ℕ) where
  pub place_counted : (k b p : ℕ) → p < k → 0 < count (after f p b) (chain f k b)
  place_counted k b p within = count_at (chain f k b) p (after f p b) (omega (arith, within, chain_length f k b)) (chain_place f k b p within)

  pub places_counted : (k b p q : ℕ) → p < q → q < k → after f p b ≡ after f q b → 2 ≤ count (after f q b) (chain f k b)
  places_counted k b p q less within is =
      let before : p < k = omega arith in
      count_two (chain f k b) p q (after f q b) less (omega (arith, within, chain_length f k b)) (chain_place f k b p before ∙ is) (chain_place f k b q within)

  behind_place : {k b z : ℕ} → Stands f k (f b) z → Stands f (suc k) b z
  unfolding after
  behind_place stands = record { place = suc stands.place; within = omega (arith, stands.within); is = stands.is }

  pub counted_place : (k b z : ℕ) → 0 < count z (chain f k b) → Stands f k b z
  unfolding chain after
  counted_place zero b z some = absurd (omega (arith, some, count_nil z))
  counted_place (suc k) b z some =
      elim (ℕ_discrete z b) [
        | yes is ↦ record { place = 0; within = omega arith; is = sym is }
        | no other ↦ behind_place (counted_place k (f b) z (omega (arith, some, count_other z b (chain f k (f b)) other)))
      ]

  behind_again : {k b z : ℕ} → Again f k (f b) z → Again f (suc k) b z
  unfolding after
  behind_again again =
      record {
        first = suc again.first;
        second = suc again.second;
        less = omega (arith, again.less);
        within = omega (arith, again.within);
        is = again.is;
        also = again.also;
      }

  here_again : {k b z : ℕ} → z ≡ b → Stands f k (f b) z → Again f (suc k) b z
  unfolding after
  here_again is stands =
      record { first = 0; second = suc stands.place; less = omega arith; within = omega (arith, stands.within); is = sym is; also = stands.is }

  pub counted_again : (k b z : ℕ) → 2 ≤ count z (chain f k b) → Again f k b z
  unfolding chain
  counted_again zero b z twice = absurd (omega (arith, twice, count_nil z))
  counted_again (suc k) b z twice =
      elim (ℕ_discrete z b) [
        | yes is ↦ here_again is (counted_place k (f b) z (omega (arith, twice, count_same z b (chain f k (f b)) is)))
        | no other ↦ behind_again (counted_again k (f b) z (omega (arith, twice, count_other z b (chain f k (f b)) other)))
      ]

  -- a chain that leads to no block a second time
  pub counted_once : (k b : ℕ) → ((p q : ℕ) → p < q → q < k → after f p b ≡ after f q b → ⊥) → (z : ℕ) → count z (chain f k b) ≤ 1
  counted_once k b apart z =
      elim (dec_lt 1 (count z (chain f k b))) [
        | yes twice ↦
            let again = counted_again k b z twice in
            absurd (apart again.first again.second again.less again.within (again.is ∙ sym again.also))
        | no once ↦ omega (arith, once)
      ]

  -- the last block stands at the last place
  pub last_place : (other k b : ℕ) → last_of f other (suc k) b ≡ after f k b
  unfolding last_of after
  last_place other zero b = refl
  last_place other (suc k) b = last_place b k (f b)
