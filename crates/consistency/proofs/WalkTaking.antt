-- Blocks taken one by one on a map: the map counts them, and they can be taken exactly if each is in range, not taken before and not named twice.
use Prim.Native.Nat.{ℕ, ◌+◌, ◌≤◌, ◌<◌}
use mathlib.Core.Path.{◌≡◌, refl, ap, ◌∙◌}
use mathlib.Core.Bool.{true}
use mathlib.Core.List.{List, [], ◌∷◌}
use native.Mathlib.Omega.{arith}
use native.Mathlib.Decide.{ℕ_discrete}
use lib.Dec.{eqb, leb, ltb}
use lib.ListN.{length, get_or, set, length-set}
use lib.Seq.{get_or-set_same, get_or-set_other}
use borrow.Author.Tests.{eq-eqb, eqb-true, le-leb, leb-true, lt-ltb, ltb-true}
use Rattle.pack.specs.File.{count}
use Rattle.answers.proofs.RefusalsTests.{and_left, and_right, and_both}
use Rattle.pack.proofs.FileCount.{count_nil, count_same, count_other, count_more}
use Rattle.consistency.specs.Walk.{takes, mark}

pub mark_length : (map bs : List ℕ) → length (mark map bs) ≡ length map
unfolding mark
mark_length map [] = refl
mark_length map (b ∷ bs) = mark_length (set map b 1) bs ∙ length-set map b 1

-- what it means that the first block can be taken, and then the others
pub record First (low end : ℕ) (map : List ℕ) (b : ℕ) (bs : List ℕ) : Type 0 where
  pub from : low ≤ b
  pub below : b < end
  pub free : get_or map b 0 ≡ 0
  pub rest : takes low end (set map b 1) bs ≡ true

pub takes_first : (low end : ℕ) (map : List ℕ) (b : ℕ) (bs : List ℕ) → takes low end map (b ∷ bs) ≡ true → First low end map b bs
unfolding takes
takes_first low end map b bs test =
    let behind = and_right (leb low b) _ test in
    let last = and_right (ltb b end) _ behind in
    record {
      from = leb-true low b (and_left (leb low b) _ test);
      below = ltb-true b end (and_left (ltb b end) _ behind);
      free = eqb-true _ 0 (and_left (eqb (get_or map b 0) 0) _ last);
      rest = and_right (eqb (get_or map b 0) 0) _ last;
    }

pub first_takes : (low end : ℕ) (map : List ℕ) (b : ℕ) (bs : List ℕ) → First low end map b bs → takes low end map (b ∷ bs) ≡ true
unfolding takes
first_takes low end map b bs f = and_both (le-leb low b f.from) (and_both (lt-ltb b end f.below) (and_both (eq-eqb _ 0 f.free) f.rest))

-- a map at two equal places
at_same : (map : List ℕ) {b x : ℕ} → b ≡ x → get_or map b 0 ≡ get_or map x 0
at_same map same = ap (λ (k : ℕ). get_or map k 0) same

-- the map counts: it then has at each block what it had, and one for each time that the block was taken
pub mark_count : (low end : ℕ) (map bs : List ℕ) → end ≤ length map → takes low end map bs ≡ true → (b : ℕ) → get_or (mark map bs) b 0 ≡ get_or map b 0 + count b bs
unfolding mark
mark_count low end map [] long test b = omega (arith, count_nil b)
mark_count low end map (x ∷ xs) long test b =
    let f = takes_first low end map x xs test in
    let later = mark_count low end (set map x 1) xs (simp length-set long) f.rest b in
    elim (ℕ_discrete b x) [
      | yes e ↦ omega (arith, later, f.free, at_same map e, at_same (set map x 1) e, get_or-set_same map x 1 0 (omega (arith, f.below)), count_same b x xs e)
      | no e ↦ omega (arith, later, get_or-set_other map x b 1 0 e, count_other b x xs e)
    ]

-- what is taken is in range
pub takes_range : (low end : ℕ) (map bs : List ℕ) → takes low end map bs ≡ true → (b : ℕ) → 0 < count b bs → (low ≤ b) × (b < end)
takes_range low end map [] test b some = absurd (omega (arith, count_nil b))
takes_range low end map (x ∷ xs) test b some =
    let f = takes_first low end map x xs test in
    elim (ℕ_discrete b x) [
      | yes e ↦ omega (arith, f.from, f.below, e)
      | no e ↦ takes_range low end (set map x 1) xs f.rest b (omega (arith, some, count_other b x xs e))
    ]

-- a map of 0 and 1 with one more 1 is such a map
set_flag : (map : List ℕ) (x : ℕ) → x < length map → ((b : ℕ) → get_or map b 0 ≤ 1) → (b : ℕ) → get_or (set map x 1) b 0 ≤ 1
set_flag map x inside flags b =
    elim (ℕ_discrete b x) [
      | yes e ↦ omega (arith, at_same (set map x 1) e, get_or-set_same map x 1 0 inside)
      | no e ↦ omega (arith, get_or-set_other map x b 1 0 e, flags b)
    ]

-- on a map of 0 and 1 no block is taken twice, nor one that was taken before
pub takes_once : (low end : ℕ) (map bs : List ℕ) → end ≤ length map → ((b : ℕ) → get_or map b 0 ≤ 1) → takes low end map bs ≡ true → (b : ℕ) → get_or map
    b 0 + count b bs ≤ 1
takes_once low end map [] long flags test b = omega (arith, count_nil b, flags b)
takes_once low end map (x ∷ xs) long flags test b =
    let f = takes_first low end map x xs test in
    let inside : x < length map = omega (arith, f.below) in
    let later = takes_once low end (set map x 1) xs (simp length-set long) (set_flag map x inside flags) f.rest b in
    elim (ℕ_discrete b x) [
      | yes e ↦ omega (arith, later, f.free, at_same map e, at_same (set map x 1) e, get_or-set_same map x 1 0 inside, count_same b x xs e)
      | no e ↦ omega (arith, later, get_or-set_other map x b 1 0 e, count_other b x xs e)
    ]

-- and the other way: blocks in range, each named at most once and not taken before, can be taken
pub takes_all : (low end : ℕ) (map bs : List ℕ) → end ≤ length map → ((b : ℕ) → 0 < count b bs → (low ≤ b) × (b < end))
    → ((b : ℕ) → get_or map b 0 + count b bs ≤ 1) → takes low end map bs ≡ true
unfolding takes
takes_all low end map [] long range once = refl
takes_all low end map (x ∷ xs) long range once =
    let here = count_same x x xs refl in
    let placed = range x (omega (arith, here)) in
    let inside : x < length map = omega (arith, placed) in
    first_takes low end map x xs
    (record {
      from = placed.0;
      below = placed.1;
      free = omega (arith, once x, here);
      rest = takes_all low end (set map x 1) xs (simp length-set long)
          (λ b some. range b (omega (arith, some, count_more b x xs)))
          (λ b. elim (ℕ_discrete b x) [
            | yes e ↦ omega (arith, once b, at_same (set map x 1) e, get_or-set_same map x 1 0 inside, count_same b x xs e)
            | no e ↦ omega (arith, once b, get_or-set_other map x b 1 0 e, count_other b x xs e)
          ]);
    })
