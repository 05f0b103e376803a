-- Free blocks counted on a map: in the steps of a loop, over k blocks that are left or up to block n, and that they are those of the image.
use Prim.Native.Nat.{ℕ, suc, zero, ◌+◌, ◌-◌, ◌≤◌, ◌<◌}
use mathlib.Core.Path.{◌≡◌, refl, sym, ap, subst, ◌∙◌}
use mathlib.Core.Bool.{Bool, true, false}
use mathlib.Core.List.{List, [], ◌∷◌}
use native.Mathlib.Omega.{arith}
use native.Mathlib.Decide.{dec_le}
use lib.Dec.{eqb, leb, ltb}
use lib.ListN.{get_or}
use borrow.Author.Tests.{eq-eqb, ne_eqb, le-leb, lt-leb, lt-ltb, le-ltb, leb-true, leb-false}
use Rattle.answers.specs.Stage.{Clear, Refused}
use Rattle.answers.specs.Refusals.{row}
use Rattle.answers.specs.Stage.{verdict_of}
use Rattle.answers.proofs.Refusals.{refuse, pass, clear}
use Rattle.answers.proofs.Stage.{makes_clear, makes_refused}
use Rattle.pack.specs.File.{one}
use Rattle.pack.specs.declared.Geometry.{Geometry}
use Rattle.pack.specs.declared.Owner.{Owner}
use Rattle.pack.specs.Geometry.{geometry_of}
use Rattle.pack.specs.Consistent.{total, held, Consistent}
use Rattle.pack.specs.Owner.{owner_of, is_free, free_below, free_count}
use Rattle.pack.proofs.HeaderRules.{header_sized}
use Rattle.pack.proofs.ConsistentTotal.{total_same, total_each, total_split}
use Rattle.owners.specs.OneOwner.{OneOwner}
use Rattle.owners.specs.OneOwner.OneOwner.{system, free, held_by}
use Rattle.owners.proofs.OneOwner.{one_owner}
use Rattle.owners.proofs.OwnerSum.{one_free, free_total}
use Rattle.room.specs.RoomMap.{Says, is_free_on, free_on}

pub free_end : (map : List ℕ) (b : ℕ) → free_on map b 0 ≡ 0
unfolding free_on total
free_end map b = refl

pub free_step : (map : List ℕ) (b k : ℕ) → 0 < k → get_or map b 0 ≡ 0 → free_on map b k ≡ 1 + free_on map (b + 1) (k - 1)
unfolding free_on total
free_step map b zero some is = absurd (omega arith)
free_step map b (suc k) some is =
    let left : suc k - 1 ≡ k = omega arith in
    rw (eq-eqb (get_or map b 0) 0 is, left)

pub free_pass : (map : List ℕ) (b k : ℕ) → 0 < k → (get_or map b 0 ≡ 0 → ⊥) → free_on map b k ≡ free_on map (b + 1) (k - 1)
unfolding free_on total
free_pass map b zero some other = absurd (omega arith)
free_pass map b (suc k) some other =
    let left : suc k - 1 ≡ k = omega arith in
    rw (ne_eqb (get_or map b 0) 0 other, left) (omega arith)

pub free_end_at : (map : List ℕ) (b n : ℕ) → n ≤ b → free_on map b (n - b) ≡ 0
free_end_at map b n end = let left : n - b ≡ 0 = omega arith in ap (free_on map b) left ∙ free_end map b

pub free_step_to : (map : List ℕ) (b n : ℕ) → b < n → get_or map b 0 ≡ 0 → free_on map b (n - b) ≡ 1 + free_on map (b + 1) (n - (b + 1))
free_step_to map b n before is =
    let left : n - b - 1 ≡ n - (b + 1) = omega arith in
    free_step map b (n - b) (omega arith) is ∙ ap (λ (k : ℕ). 1 + free_on map (b + 1) k) left

pub free_pass_to : (map : List ℕ) (b n : ℕ) → b < n → (get_or map b 0 ≡ 0 → ⊥) → free_on map b (n - b) ≡ free_on map (b + 1) (n - (b + 1))
free_pass_to map b n before other =
    let left : n - b - 1 ≡ n - (b + 1) = omega arith in
    free_pass map b (n - b) (omega arith) other ∙ ap (λ (k : ℕ). free_on map (b + 1) k) left

pub free_most : (map : List ℕ) (b k : ℕ) → free_on map b k ≤ k
unfolding free_on total
free_most map b zero = omega arith
free_most map b (suc k) = omega (arith, one_most (eqb (get_or map b 0) 0), free_most map (b + 1) k)
  where
    one_most : (t : Bool) → one t ≤ 1
    one_most true = omega arith
    one_most false = omega arith

-- whether so many are free that `left` more are enough, step by step
module _ (map : List ℕ) (left b n : ℕ) where
  pub enough_seen : left ≡ 0 → true ≡ leb left (free_on map b (n - b))
  enough_seen is = sym (le-leb left (free_on map b (n - b)) (omega arith))

  module _ (before : b < n) where
    pub enough_step : (left ≡ 0 → ⊥) → get_or map b 0 ≡ 0 → (next : ℕ) → next ≡ left - 1
        → leb left (free_on map b (n - b)) ≡ leb next (free_on map (b + 1) (n - (b + 1)))
    enough_step some is next fewer = by (dec_le next (free_on map (b + 1) (n - (b + 1)))) (free_step_to map b n before is)
      where
        by : Dec (next ≤ free_on map (b + 1) (n - (b + 1))) → free_on map b (n - b) ≡ 1 + free_on map (b + 1) (n - (b + 1))
            → leb left (free_on map b (n - b)) ≡ leb next (free_on map (b + 1) (n - (b + 1)))
        by (yes few) step =
            le-leb left (free_on map b (n - b)) (omega arith) ∙ sym (le-leb next (free_on map (b + 1) (n - (b + 1))) few)
        by (no many) step =
            lt-leb left (free_on map b (n - b)) (omega (arith, many, some))
            ∙ sym (lt-leb next (free_on map (b + 1) (n - (b + 1))) (omega (arith, many)))

    pub enough_pass : (get_or map b 0 ≡ 0 → ⊥) → (next : ℕ) → next ≡ left
        → leb left (free_on map b (n - b)) ≡ leb next (free_on map (b + 1) (n - (b + 1)))
    enough_pass other next same =
        ap (leb left) (free_pass_to map b n before other) ∙ ap (λ (m : ℕ). leb m (free_on map (b + 1) (n - (b + 1)))) (sym same)

  pub enough_never : n ≤ b → (left ≡ 0 → ⊥) → false ≡ leb left (free_on map b (n - b))
  enough_never over some = sym (lt-leb left (free_on map b (n - b)) (omega (arith, free_end_at map b n over, some)))

-- what is judged of a count of free blocks
module _ (needed free : ℕ) where
  pub judged_enough : leb needed free ≡ true → Clear ≡ verdict_of (row (ltb free needed) 0o42 ∷ [])
  judged_enough many = makes_clear _ (sym (pass 0o42 [] (le-ltb free needed (leb-true needed free many)) ∙ clear))

  pub judged_short : leb needed free ≡ false → Refused 0o42 ≡ verdict_of (row (ltb free needed) 0o42 ∷ [])
  judged_short few = makes_refused _ (sym (refuse [] (lt-ltb free needed (leb-false needed free few)))) (λ zero. omega (arith, zero))

module _ {img : List ℕ} (right : Consistent img) where
  -- a map of how often each block is held has the free blocks at 0
  free_mapped : (map : List ℕ) (b : ℕ) → get_or map b 0 ≡ held img b → (geometry_of img).bodies.0 ≤ b → one (is_free_on map b) ≡ one_free img b
  free_mapped map b is body = by (owner_of img b) (one_owner right b)
    where
      by : (o : Owner) → OneOwner img b o → one (is_free_on map b) ≡ one (is_free o)
      by o (system below none) = absurd (omega arith)
      by o (free from none) = ap one (eq-eqb (get_or map b 0) 0 (omega (arith, none.reached)))
      by o (held_by from held_one) = ap one (ne_eqb (get_or map b 0) 0 (λ empty. omega (arith, held_one.reached)))

  system_not_free : (b : ℕ) → b < (geometry_of img).bodies.0 → one_free img b ≡ 0
  system_not_free b below = by (owner_of img b) (one_owner right b)
    where
      by : (o : Owner) → OneOwner img b o → one (is_free o) ≡ 0
      by o (system low none) = refl
      by o (free body none) = absurd (omega arith)
      by o (held_by body held_one) = refl

  pub free_by_map : (map : List ℕ) → Says map img
      → free_on map (geometry_of img).bodies.0 ((geometry_of img).blocks - (geometry_of img).bodies.0) ≡ free_count img
  unfolding free_on
  free_by_map map is = by (geometry_of img).bodies.0 (geometry_of img).blocks (omega (arith, (header_sized img right.header).bodies)) system_not_free (λ b body. free_mapped map b (is b) body)
    where
      by : (s n : ℕ) → s ≤ n → ((b : ℕ) → b < s → one_free img b ≡ 0) → ((b : ℕ) → s ≤ b → one (is_free_on map b) ≡ one_free img b)
          → free_on map s (n - s) ≡ free_below img n
      by s n fits none same =
          let size : s + (n - s) ≡ n = omega arith in
          let start : 0 + s ≡ s = omega arith in
          omega (
            arith,
            total_same (λ i. one (is_free_on map i)) (one_free img) s (n - s) (λ b low high. same b low),
            free_total img n,
            ap (total (one_free img) 0) size,
            total_split (one_free img) 0 s (n - s),
            ap (λ (b : ℕ). total (one_free img) b (n - s)) start,
            total_same (one_free img) (λ b. 0) 0 s (λ b low high. none b (omega arith)),
            total_each 0 0 s,
          )

  -- the same at the measures that the code read
  pub free_at : (map : List ℕ) → Says map img → (g : Geometry) → geometry_of img ≡ g → free_on map g.bodies.0 (g.blocks - g.bodies.0) ≡ free_count img
  free_at map says g measures = subst (λ (h : Geometry). free_on map h.bodies.0 (h.blocks - h.bodies.0) ≡ free_count img) measures (free_by_map map says)
