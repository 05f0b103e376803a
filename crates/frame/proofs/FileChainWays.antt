-- What is known of chains: how long they are, when two ways of going on walk the same blocks, and how one chain goes on into another.
use Prim.Native.Nat.{ℕ, suc, zero, ◌+◌, ◌≤◌, ◌<◌}
use mathlib.Core.Path.{◌≡◌, refl, sym, ap, ◌∙◌}
use mathlib.Core.List.{List, [], ◌∷◌, ◌++◌}
use mathlib.Core.Bool.{cond}
use native.Mathlib.Omega.{arith}
use native.Mathlib.Decide.{ℕ_discrete, dec_lt}
use lib.ListN.{get_or}
use lib.Dec.{eqb}
use borrow.Author.Tests.{ne_eqb}
use Rattle.pack.specs.declared.Geometry.{Geometry}
use Rattle.pack.specs.File.{link_of, next_of, chain, after, last_of, count}
use Rattle.pack.proofs.FileCount.{count_nil, count_same, count_other, count_more}

pub next_linked : (img : List ℕ) (g : Geometry) (kind b : ℕ) → kind ≡ 2 → next_of img g kind b ≡ link_of img g b
unfolding next_of
next_linked img g kind b is =
    let other : kind ≡ 1 → ⊥ = λ one. omega (arith, one, is) in
    simp (ne_eqb kind 1 other)

-- the same link gives the same next block
pub next_same : (img img' : List ℕ) (g : Geometry) (kind b : ℕ) → link_of img' g b ≡ link_of img g b → next_of img' g kind b ≡ next_of img g kind b
unfolding next_of
next_same img img' g kind b same = ap (cond (eqb kind 1) (b + 1)) same

module _ (f : ℕ → ℕ) where
  -- the block at a place is where as many steps lead
  pub chain_place : (k b p : ℕ) → p < k → get_or (chain f k b) p 0 ≡ after f p b
  unfolding chain after
  chain_place zero b p within = absurd (omega arith)
  chain_place (suc k) b zero within = refl
  chain_place (suc k) b (suc p) within = chain_place k (f b) p (omega arith)

  -- a chain without blocks
  pub chain_none : (k b : ℕ) → k ≡ 0 → chain f k b ≡ []
  unfolding chain
  chain_none k b none = ap (λ (i : ℕ). chain f i b) none

  pub after_none : (k b : ℕ) → k ≡ 0 → after f k b ≡ b
  unfolding after
  after_none k b none = ap (λ (i : ℕ). after f i b) none

  pub last_none : (other k b : ℕ) → k ≡ 0 → last_of f other k b ≡ other
  unfolding last_of
  last_none other k b none = ap (λ (i : ℕ). last_of f other i b) none

  -- a chain with a block: the number given for none is not looked at, and the last block is one of the chain
  pub last_any : (other other' k b : ℕ) → 0 < k → last_of f other k b ≡ last_of f other' k b
  unfolding last_of
  last_any other other' zero b some = absurd (omega arith)
  last_any other other' (suc k) b some = refl

  last_counted : (other k b : ℕ) → 0 < count (last_of f other (suc k) b) (chain f (suc k) b)
  unfolding chain last_of
  last_counted other zero b = omega (arith, count_same b b [] refl)
  last_counted other (suc k) b = omega (arith, last_counted b k (f b), count_more (last_of f (f b) k (f (f b))) b (f b ∷ chain f k (f (f b))))

  pub last_in_law : (other k b z : ℕ) → 0 < k → last_of f other k b ≡ z → 0 < count z (chain f k b)
  last_in_law other zero b z some is = absurd (omega arith)
  last_in_law other (suc k) b z some is = omega (arith, last_counted other k b, ap (λ (x : ℕ). count x (chain f (suc k) b)) is)

  -- behind the last block stands where the chain ends
  pub after_last : (other k b : ℕ) → 0 < k → after f k b ≡ f (last_of f other k b)
  unfolding after last_of
  after_last other zero b some = absurd (omega arith)
  after_last other (suc zero) b some = refl
  after_last other (suc (suc k)) b some = after_last b (suc k) (f b) (omega arith)

  pub first_in : (k b : ℕ) → 0 < k → 0 < count b (chain f k b)
  unfolding chain
  first_in zero b some = absurd (omega arith)
  first_in (suc k) b some = omega (arith, count_same b b (chain f k (f b)) refl)

  pub after_append : (k j b : ℕ) → after f (k + j) b ≡ after f j (after f k b)
  unfolding after
  after_append zero j b = let start : 0 + j ≡ j = omega arith in ap (λ (i : ℕ). after f i b) start
  after_append (suc k) j b =
      let start : suc k + j ≡ suc (k + j) = omega arith in
      ap (λ (i : ℕ). after f i b) start ∙ after_append k j (f b)

-- two ways of going on that agree on the blocks walked
module _ (f f' : ℕ → ℕ) where
  pub chain_same : (k b : ℕ) → ((x : ℕ) → 0 < count x (chain f k b) → f' x ≡ f x) → chain f' k b ≡ chain f k b
  unfolding chain
  chain_same zero b agree = refl
  chain_same (suc k) b agree =
      ap (◌∷◌ b)
      (ap (chain f' k) (agree b (omega (arith, count_same b b (chain f k (f b)) refl)))
      ∙ chain_same k (f b) (λ x some. agree x (omega (arith, some, count_more x b (chain f k (f b))))))

  pub after_same : (k b : ℕ) → ((x : ℕ) → 0 < count x (chain f k b) → f' x ≡ f x) → after f' k b ≡ after f k b
  unfolding chain after
  after_same zero b agree = refl
  after_same (suc k) b agree =
      ap (after f' k) (agree b (omega (arith, count_same b b (chain f k (f b)) refl)))
      ∙ after_same k (f b) (λ x some. agree x (omega (arith, some, count_more x b (chain f k (f b)))))

  pub last_same : (other k b : ℕ) → ((x : ℕ) → 0 < count x (chain f k b) → f' x ≡ f x) → last_of f' other k b ≡ last_of f other k b
  unfolding chain last_of
  last_same other zero b agree = refl
  last_same other (suc k) b agree =
      ap (last_of f' b k) (agree b (omega (arith, count_same b b (chain f k (f b)) refl)))
      ∙ last_same b k (f b) (λ x some. agree x (omega (arith, some, count_more x b (chain f k (f b)))))

-- f' follows f until z, the last block and counted once, and goes on from there its own way
module _ (f f' : ℕ → ℕ) (z : ℕ) where
  not_last : (other k b : ℕ) → last_of f other (suc (suc k)) b ≡ z → count z (chain f (suc (suc k)) b) ≤ 1 → b ≡ z → ⊥
  unfolding chain last_of
  not_last other k b last once is =
      let later : 0 < count z (chain f (suc k) (f b)) = last_in_law f b (suc k) (f b) z (omega arith) last in
      omega (arith, once, later, count_same z b (chain f (suc k) (f b)) (sym is))

  pub chain_join : (other k j b : ℕ) → ((x : ℕ) → 0 < count x (chain f (suc k) b) → (x ≡ z → ⊥) → f' x ≡ f x) → last_of f other (suc k) b ≡ z
      → count z (chain f (suc k) b) ≤ 1 → chain f' (suc k + j) b ≡ chain f (suc k) b ++ chain f' j (f' z)
  unfolding chain last_of
  chain_join other zero j b agree last once =
      let start : 1 + j ≡ suc j = omega arith in
      ap (λ (i : ℕ). chain f' i b) start ∙ ap (λ (x : ℕ). b ∷ chain f' j (f' x)) last
  chain_join other (suc k) j b agree last once =
      let start : suc (suc k) + j ≡ suc (suc k + j) = omega arith in
      let step = agree b (omega (arith, count_same b b (chain f (suc k) (f b)) refl)) (not_last other k b last once) in
      ap (λ (i : ℕ). chain f' i b) start
      ∙ ap (λ (x : ℕ). b ∷ chain f' (suc k + j) x) step
      ∙ ap (◌∷◌ b)
      (chain_join b k j (f b) (λ x some apart. agree x (omega (arith, some, count_more x b (chain f (suc k) (f b)))) apart) last
      (omega (arith, once, count_more z b (chain f (suc k) (f b)))))

  pub after_join : (other k j b : ℕ) → ((x : ℕ) → 0 < count x (chain f (suc k) b) → (x ≡ z → ⊥) → f' x ≡ f x) → last_of f other (suc k) b ≡ z
      → count z (chain f (suc k) b) ≤ 1 → after f' (suc k + j) b ≡ after f' j (f' z)
  unfolding chain last_of after
  after_join other zero j b agree last once =
      let start : 1 + j ≡ suc j = omega arith in
      ap (λ (i : ℕ). after f' i b) start ∙ ap (λ (x : ℕ). after f' j (f' x)) last
  after_join other (suc k) j b agree last once =
      let start : suc (suc k) + j ≡ suc (suc k + j) = omega arith in
      let step = agree b (omega (arith, count_same b b (chain f (suc k) (f b)) refl)) (not_last other k b last once) in
      ap (λ (i : ℕ). after f' i b) start
      ∙ ap (after f' (suc k + j)) step
      ∙ after_join b k j (f b) (λ x some apart. agree x (omega (arith, some, count_more x b (chain f (suc k) (f b)))) apart) last
      (omega (arith, once, count_more z b (chain f (suc k) (f b))))

  pub last_join : (other other' k j b : ℕ) → ((x : ℕ) → 0 < count x (chain f (suc k) b) → (x ≡ z → ⊥) → f' x ≡ f x) → last_of f other (suc k) b ≡ z
      → count z (chain f (suc k) b) ≤ 1 → last_of f' other' (suc k + j) b ≡ last_of f' z j (f' z)
  unfolding chain last_of
  last_join other other' zero j b agree last once =
      let start : 1 + j ≡ suc j = omega arith in
      ap (λ (i : ℕ). last_of f' other' i b) start ∙ ap (λ (x : ℕ). last_of f' x j (f' x)) last
  last_join other other' (suc k) j b agree last once =
      let start : suc (suc k) + j ≡ suc (suc k + j) = omega arith in
      let step = agree b (omega (arith, count_same b b (chain f (suc k) (f b)) refl)) (not_last other k b last once) in
      ap (λ (i : ℕ). last_of f' other' i b) start
      ∙ ap (last_of f' b (suc k + j)) step
      ∙ last_join b b k j (f b) (λ x some apart. agree x (omega (arith, some, count_more x b (chain f (suc k) (f b)))) apart) last
      (omega (arith, once, count_more z b (chain f (suc k) (f b))))

-- an extent: each block is the one behind the last
module _ (f : ℕ → ℕ) (steps : (x : ℕ) → f x ≡ x + 1) where
  pub extent_after : (k s : ℕ) → after f k s ≡ s + k
  unfolding after
  extent_after zero s = omega arith
  extent_after (suc k) s = omega (arith, extent_after k (f s), steps s)

  pub extent_place : (k s p : ℕ) → p < k → get_or (chain f k s) p 0 ≡ s + p
  extent_place k s p within = chain_place f k s p within ∙ extent_after p s

  pub extent_below : (b k s : ℕ) → b < s → count b (chain f k s) ≡ 0
  unfolding chain
  extent_below b zero s below = count_nil b
  extent_below b (suc k) s below =
      omega (arith, count_other b s (chain f k (f s)) (λ is. omega (arith, is)), extent_below b k (f s) (omega (arith, steps s)))

  pub extent_above : (b k s : ℕ) → s + k ≤ b → count b (chain f k s) ≡ 0
  unfolding chain
  extent_above b zero s above = count_nil b
  extent_above b (suc k) s above =
      omega (arith, count_other b s (chain f k (f s)) (λ is. omega (arith, is)), extent_above b k (f s) (omega (arith, steps s)))

  pub extent_inside : (b k s : ℕ) → s ≤ b → b < s + k → count b (chain f k s) ≡ 1
  unfolding chain
  extent_inside b zero s low high = absurd (omega arith)
  extent_inside b (suc k) s low high =
      elim (ℕ_discrete b s) [
        | yes is ↦ omega (arith, count_same b s (chain f k (f s)) is, extent_below b k (f s) (omega (arith, steps s, is)))
        | no other ↦
            omega
            (arith, count_other b s (chain f k (f s)) other, extent_inside b k (f s) (omega (arith, steps s, other)) (omega (arith, steps s)))
      ]

  pub extent_most : (b k s : ℕ) → count b (chain f k s) ≤ 1
  extent_most b k s =
      elim (dec_lt b s) [
        | yes below ↦ omega (arith, extent_below b k s below)
        | no low ↦ elim (dec_lt b (s + k)) [
          | yes high ↦ omega (arith, extent_inside b k s (omega (arith, low)) high)
          | no above ↦ omega (arith, extent_above b k s (omega (arith, above)))
        ]
      ]
