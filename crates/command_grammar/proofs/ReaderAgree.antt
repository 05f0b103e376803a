-- Laws of lists: two lists that agree at first.
use Prim.Native.Nat.{ℕ, suc, zero, ◌+◌, ◌≤◌, ◌<◌}
use mathlib.Core.Path.{◌≡◌, refl, ap}
use mathlib.Core.List.{List, [], ◌∷◌, ◌++◌}
use native.Mathlib.Nat.{zero-add, suc-add, not-suc-le-zero, le_of_suc-le-suc}
use lib.ListN.{length, take, drop}

-- the first n characters are the same, or all of them where there are fewer
pub data Agree : ℕ → List ℕ → List ℕ → Type 0 where
  none : {s t : List ℕ} → Agree zero s t
  end : {n : ℕ} → Agree (suc n) [] []
  same : {n x : ℕ} {s t : List ℕ} → Agree n s t → Agree (suc n) (x ∷ s) (x ∷ t)

pub agree_refl : (k : ℕ) (s : List ℕ) → Agree k s s
agree_refl zero s = none
agree_refl (suc k) [] = end
agree_refl (suc k) (x ∷ s) = same (agree_refl k s)

pub agree_less : (i : ℕ) {j : ℕ} {s t : List ℕ} → i ≤ j → Agree j s t → Agree i s t
agree_less zero h a = none
agree_less (suc i) h none = absurd (not-suc-le-zero h)
agree_less (suc i) h end = end
agree_less (suc i) h (same a) = same (agree_less i (le_of_suc-le-suc h) a)

drop_step : (n k m : ℕ) (s t : List ℕ) → ((s t : List ℕ) → Agree m s t → Agree k (drop n s) (drop n t)) → Agree (suc m) s t →
    Agree k (drop (suc n) s) (drop (suc n) t)
drop_step n k m s t f end = agree_refl k []
drop_step n k m s t f (same {s = s₁} {t = t₁} a) = f s₁ t₁ a

pub agree_drop : (n k : ℕ) (s t : List ℕ) → Agree (n + k) s t → Agree k (drop n s) (drop n t)
agree_drop zero k s t a = rw zero-add at a
agree_drop (suc n) k s t a = drop_step n k (n + k) s t (λ s t h. agree_drop n k s t h) (rw suc-add at a)

-- what a list begins with, and anything after it
pub agree_take : (n : ℕ) (s t : List ℕ) → n < length s → Agree (suc n) s (take (suc n) s ++ t)
agree_take n [] t h = absurd (not-suc-le-zero h)
agree_take zero (x ∷ s) t h = same none
agree_take (suc n) (x ∷ s) t h = same (agree_take n s t (le_of_suc-le-suc h))

pub agree_taken : (k : ℕ) {s t : List ℕ} → Agree k s t → take k t ≡ take k s
agree_taken zero none = refl
agree_taken (suc k) end = refl
agree_taken (suc k) (same {x = x} a) = ap (λ (l : List ℕ). x ∷ l) (agree_taken k a)
