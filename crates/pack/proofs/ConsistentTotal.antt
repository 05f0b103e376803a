-- Sums over numbers in a row, and how often numbers stand in a list, summed.
use Prim.Native.Nat.{ℕ, suc, zero, ◌+◌, ◌-◌, ◌*◌, ◌≤◌, ◌<◌}
use mathlib.Core.Path.{◌≡◌, refl, ap, ◌∙◌}
use mathlib.Core.List.{List, [], ◌∷◌}
use native.Mathlib.Omega.{arith}
use native.Mathlib.Decide.{ℕ_discrete}
use lib.Dec.{ltb}
use lib.ListN.{length}
use borrow.Author.Tests.{lt-ltb, le-ltb}
use Rattle.pack.specs.File.{one, count}
use Rattle.pack.specs.Consistent.{total}
use Rattle.pack.proofs.FileCount.{count_nil, count_same, count_other, count_split}

pub total_none : (f : ℕ → ℕ) (from : ℕ) → total f from 0 ≡ 0
unfolding total
total_none f from = refl

pub total_same : (f g : ℕ → ℕ) (from k : ℕ) → ((i : ℕ) → from ≤ i → i < from + k → f i ≡ g i) → total f from k ≡ total g from k
unfolding total
total_same f g from zero same = refl
total_same f g from (suc k) same =
    omega (arith, same from (omega arith) (omega arith), total_same f g (from + 1) k (λ i low high. same i (omega arith) (omega arith)))

pub total_add : (f g : ℕ → ℕ) (from k : ℕ) → total (λ i. f i + g i) from k ≡ total f from k + total g from k
unfolding total
total_add f g from zero = refl
total_add f g from (suc k) = omega (arith, total_add f g (from + 1) k)

-- the same in each summand
pub total_each : (n from k : ℕ) → total (λ i. n) from k ≡ k * n
unfolding total
total_each n from zero = omega arith
total_each n from (suc k) = omega (arith, total_each n (from + 1) k)

pub total_split : (f : ℕ → ℕ) (from j k : ℕ) → total f from (j + k) ≡ total f from j + total f (from + j) k
unfolding total
total_split f from zero k =
    let size : 0 + k ≡ k = omega arith in
    let start : from + 0 ≡ from = omega arith in
    omega (arith, ap (λ (n : ℕ). total f from n) size, ap (λ (n : ℕ). total f n k) start)
total_split f from (suc j) k =
    let size : suc j + k ≡ suc (j + k) = omega arith in
    let start : from + suc j ≡ from + 1 + j = omega arith in
    omega (arith, ap (λ (n : ℕ). total f from n) size, ap (λ (n : ℕ). total f n k) start, total_split f (from + 1) j k)

pub total_last : (f : ℕ → ℕ) (from k : ℕ) → total f from (suc k) ≡ total f from k + f (from + k)
unfolding total
total_last f from k =
    let size : k + 1 ≡ suc k = omega arith in
    omega (arith, ap (λ (n : ℕ). total f from n) size, total_split f from k 1)

-- a summand is no greater than the sum
pub total_has : (f : ℕ → ℕ) (i from k : ℕ) → from ≤ i → i < from + k → f i ≤ total f from k
unfolding total
total_has f i from zero low high = absurd (omega arith)
total_has f i from (suc k) low high =
    elim (ℕ_discrete from i)
    [ yes is ↦ omega (arith, ap f is) | no other ↦ omega (arith, total_has f i (from + 1) k (omega (arith, other)) (omega arith)) ]

-- nor are two of them greater
pub total_two : (f : ℕ → ℕ) (i j e k : ℕ) → (i ≡ j → ⊥) → e ≤ i → i < e + k → e ≤ j → j < e + k → f i + f j ≤ total f e k
unfolding total
total_two f i j e zero apart low high low₂ high₂ = absurd (omega arith)
total_two f i j e (suc k) apart low high low₂ high₂ =
    elim (ℕ_discrete e i) [
      | yes first ↦ omega (arith, ap f first, total_has f j (e + 1) k (omega (arith, first, apart)) (omega arith))
      | no later ↦ elim (ℕ_discrete e j) [
        | yes first ↦ omega (arith, ap f first, total_has f i (e + 1) k (omega (arith, later)) (omega arith))
        | no later₂ ↦ omega (arith, total_two f i j (e + 1) k apart (omega (arith, later)) (omega arith) (omega (arith, later₂)) (omega arith))
      ]
    ]

-- one summand exchanged, and two
pub total_swap : (f f' : ℕ → ℕ) (j e k : ℕ) → ((i : ℕ) → e ≤ i → i < e + k → (i ≡ j → ⊥) → f' i ≡ f i) → e ≤ j → j < e + k
    → total f' e k + f j ≡ total f e k + f' j
unfolding total
total_swap f f' j e zero same low high = absurd (omega arith)
total_swap f f' j e (suc k) same low high =
    elim (ℕ_discrete e j) [
      | yes first ↦
          omega
          (arith, total_same f' f (e + 1) k (λ i above below. same i (omega arith) (omega arith) (λ is. omega (arith, is, first))), ap f first, ap f' first)
      | no later ↦
          omega (
            arith,
            same e (omega arith) (omega arith) later,
            total_swap f f' j (e + 1) k (λ i above below other. same i (omega arith) (omega arith) other) (omega (arith, later)) (omega arith),
          )
    ]

pub total_swap_two : (f f' : ℕ → ℕ) (j l e k : ℕ) → (j ≡ l → ⊥)
    → ((i : ℕ) → e ≤ i → i < e + k → (i ≡ j → ⊥) → (i ≡ l → ⊥) → f' i ≡ f i) → e ≤ j → j < e + k → e ≤ l → l < e + k
    → total f' e k + (f j + f l) ≡ total f e k + (f' j + f' l)
unfolding total
total_swap_two f f' j l e zero apart same low high low₂ high₂ = absurd (omega arith)
total_swap_two f f' j l e (suc k) apart same low high low₂ high₂ =
    elim (ℕ_discrete e j) [
      | yes first ↦
          omega (
            arith,
            ap f first,
            ap f' first,
            total_swap f f' l (e + 1) k (λ i above below other. same i (omega arith) (omega arith) (λ is. omega (arith, is, first)) other) (omega (arith, first, apart)) (omega arith),
          )
      | no later ↦ elim (ℕ_discrete e l) [
        | yes first ↦
            omega (
              arith,
              ap f first,
              ap f' first,
              total_swap f f' j (e + 1) k (λ i above below other. same i (omega arith) (omega arith) other (λ is. omega (arith, is, first))) (omega (arith, later)) (omega arith),
            )
        | no later₂ ↦
            omega (
              arith,
              same e (omega arith) (omega arith) later later₂,
              total_swap_two f f' j l (e + 1) k apart (λ i above below other other₂. same i (omega arith) (omega arith) other other₂)
                  (omega (arith, later)) (omega arith) (omega (arith, later₂)) (omega arith),
            )
      ]
    ]

-- sums of sums, in either order
pub total_exchange : (f : ℕ → ℕ → ℕ) (low n from k : ℕ)
    → total (λ b. total (λ e. f e b) from k) low n ≡ total (λ e. total (λ b. f e b) low n) from k
unfolding total
total_exchange f low n from zero = omega (arith, total_each 0 low n)
total_exchange f low n from (suc k) =
    total_add (λ b. f from b) (λ b. total (λ e. f e b) (from + 1) k) low n
    ∙ ap (λ (s : ℕ). total (λ b. f from b) low n + s) (total_exchange f low n (from + 1) k)

-- a number counted at each number: once at itself
count_below : (x from k : ℕ) → x < from → total (λ b. count b (x ∷ [])) from k ≡ 0
unfolding total
count_below x from zero low = refl
count_below x from (suc k) low =
    omega (arith, count_other from x [] (λ is. omega arith), count_nil from, count_below x (from + 1) k (omega arith))

count_single : (x from k : ℕ) → from ≤ x → x < from + k → total (λ b. count b (x ∷ [])) from k ≡ 1
unfolding total
count_single x from zero low high = absurd (omega arith)
count_single x from (suc k) low high =
    elim (ℕ_discrete from x) [
      | yes is ↦ omega (arith, count_same from x [] is, count_nil from, count_below x (from + 1) k (omega (arith, is)))
      | no other ↦ omega (arith, count_other from x [] other, count_nil from, count_single x (from + 1) k (omega (arith, other)) (omega arith))
    ]

-- the numbers of a list, all below n, counted number by number make its length
pub count_all : (xs : List ℕ) (n : ℕ) → ((b : ℕ) → 0 < count b xs → b < n) → total (λ b. count b xs) 0 n ≡ length xs
count_all [] n below = total_same (λ b. count b []) (λ b. 0) 0 n (λ b low high. count_nil b) ∙ omega (arith, total_each 0 0 n)
count_all (x ∷ xs) n below =
    let first : x < n = below x (omega (arith, count_same x x xs refl)) in
    total_same (λ b. count b (x ∷ xs)) (λ b. count b (x ∷ []) + count b xs) 0 n (λ b low high. count_split b x xs)
    ∙ total_add (λ b. count b (x ∷ [])) (λ b. count b xs) 0 n
    ∙ omega (arith, count_single x 0 n (omega arith) (omega arith), count_all xs n (λ b more. below b (omega (arith, more, count_split b x xs))))

-- how many of n numbers from 0 on are below s
pub total_below : (s n : ℕ) → s ≤ n → total (λ b. one (ltb b s)) 0 n ≡ s
total_below s n fits =
    let size : s + (n - s) ≡ n = omega arith in
    omega (
      arith,
      ap (λ (k : ℕ). total (λ b. one (ltb b s)) 0 k) size,
      total_split (λ b. one (ltb b s)) 0 s (n - s),
      total_same (λ b. one (ltb b s)) (λ b. 1) 0 s (λ b low high. ap one (lt-ltb b s (omega arith))),
      total_each 1 0 s,
      total_same (λ b. one (ltb b s)) (λ b. 0) (0 + s) (n - s) (λ b low high. ap one (le-ltb b s (omega arith))),
      total_each 0 (0 + s) (n - s),
    )
