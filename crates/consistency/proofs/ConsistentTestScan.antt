-- The scan of all entries on one map: it passes exactly if each entry is right and no block is held twice, the map then counts, and the scan step by step.
use Prim.Native.Nat.{ℕ, suc, zero, ◌+◌, ◌-◌, ◌≤◌, ◌<◌}
use mathlib.Core.Path.{◌≡◌, refl, sym, ap, subst, ◌∙◌}
use mathlib.Core.Bool.{Bool, true, false, cond, ◌&&◌}
use mathlib.Core.List.{List}
use native.Mathlib.Omega.{arith}
use native.Mathlib.Decide.{ℕ_discrete}
use lib.Dec.{eqb}
use lib.ListN.{length, get_or}
use borrow.Author.Tests.{eq-eqb}
use Rattle.pack.specs.declared.Geometry.{Geometry}
use Rattle.pack.specs.File.{count}
use Rattle.pack.specs.Entry.{entry_word, entry_of, blocks_at, Empty, RightEntry}
use Rattle.pack.specs.Geometry.{slots}
use Rattle.pack.specs.Consistent.{total}
use Rattle.answers.proofs.RefusalsTests.{and_left, and_right, and_both, go_on, first_fails}
use Rattle.pack.proofs.ConsistentHeld.{right_bodies}
use Rattle.pack.proofs.EntryRead.{empty_blocks}
use Rattle.consistency.specs.Walk.{mark}
use Rattle.consistency.specs.EntryTest.{key_test, placed_test, entry_test}
use Rattle.consistency.specs.DifferTest.{new_test, differ_test}
use Rattle.consistency.specs.ConsistentTest.{bodies_test, named_test, names_test, scan_test, mark_all, UsedEnd}
use Rattle.consistency.proofs.WalkTaking.{mark_length, mark_count, takes_once, takes_all}
use Rattle.consistency.proofs.EntryTestWhole.{entry_right, right_entry}
use Rattle.consistency.proofs.EntryTestAnswers.{empty_placed, key_used, entry_parts}
use Rattle.consistency.proofs.DifferTest.{left_of, new_empty}

module _ (img : List ℕ) (g : Geometry) where
  -- how often the `k` entries from e on hold block b
  abbrev pub held_by : ℕ → ℕ → ℕ → ℕ
  held_by b e k = total (λ i. count b (blocks_at img g i)) e k

  -- what the scan of the `k` entries from e on decides, on a map
  pub record Fine (map : List ℕ) (e k : ℕ) : Type 0 where
    pub right : (i : ℕ) → e ≤ i → i < e + k → RightEntry img g i
    pub once : (b : ℕ) → get_or map b 0 + held_by b e k ≤ 1

  first_or_later : (e k i : ℕ) → RightEntry img g e → ((i : ℕ) → e + 1 ≤ i → i < e + 1 + k → RightEntry img g i) → e ≤ i → i < e + suc k → RightEntry img g i
  first_or_later e k i first later low high = elim (ℕ_discrete e i) [ yes is ↦ subst (RightEntry img g) is first | no other ↦ later i (omega (arith, other)) (omega arith) ]

  pub scan_fine : (map : List ℕ) (e k : ℕ) → g.blocks ≤ length map → ((b : ℕ) → get_or map b 0 ≤ 1) → scan_test img g map e k ≡ true → Fine map e k
  unfolding scan_test total
  scan_fine map e zero long flags test = record { right = λ i low high. absurd (omega arith); once = λ b. omega (arith, flags b) }
  scan_fine map e (suc k) long flags test =
      let first = entry_right img g map e (and_left (entry_test img g map e) _ test) in
      let once = takes_once g.bodies.0 g.blocks map (blocks_at img g e) long flags first.1 in
      let counts = mark_count g.bodies.0 g.blocks map (blocks_at img g e) long first.1 in
      let later = scan_fine (mark map (blocks_at img g e)) (e + 1) k (rw mark_length long) (λ b. omega (arith, once b, counts b)) (and_right (entry_test img g map e) _ test) in
      record { right = λ i low high. first_or_later e k i first.0 later.right low high; once = λ b. omega (arith, later.once b, counts b) }

  pub fine_scan : (map : List ℕ) (e k : ℕ) → g.blocks ≤ length map → Fine map e k → scan_test img g map e k ≡ true
  unfolding scan_test total
  fine_scan map e zero long fine = refl
  fine_scan map e (suc k) long fine =
      let first = fine.right e (omega arith) (omega arith) in
      let taken = takes_all g.bodies.0 g.blocks map (blocks_at img g e) long (λ b. right_bodies img g e b first) (λ b. omega (arith, fine.once b)) in
      let counts = mark_count g.bodies.0 g.blocks map (blocks_at img g e) long taken in
      and_both (right_entry img g map e first taken)
      (fine_scan (mark map (blocks_at img g e)) (e + 1) k (rw mark_length long)
      (record { right = λ i low high. fine.right i (omega arith) (omega arith); once = λ b. omega (arith, fine.once b, counts b) }))

  -- the map that a scan leaves counts
  pub scan_counts : (map : List ℕ) (e k : ℕ) → g.blocks ≤ length map → scan_test img g map e k ≡ true → (b : ℕ) → get_or (mark_all img g map e k) b 0 ≡ get_or
      map b 0 + held_by b e k
  unfolding scan_test mark_all total
  scan_counts map e zero long test b = omega arith
  scan_counts map e (suc k) long test b =
      let first = entry_right img g map e (and_left (entry_test img g map e) _ test) in
      omega (
        arith,
        mark_count g.bodies.0 g.blocks map (blocks_at img g e) long first.1 b,
        scan_counts (mark map (blocks_at img g e)) (e + 1) k (rw mark_length long) (and_right (entry_test img g map e) _ test) b,
      )

  pub marks_length : (map : List ℕ) (e k : ℕ) → length (mark_all img g map e k) ≡ length map
  unfolding mark_all
  marks_length map e zero = refl
  marks_length map e (suc k) = marks_length (mark map (blocks_at img g e)) (e + 1) k ∙ mark_length map (blocks_at img g e)

  -- step by step, at entry e of those below `end`
  module _ (map : List ℕ) (e end : ℕ) (below : e < end) where
    pub bodies_step : placed_test img g map e ≡ true → (map' : List ℕ) → map' ≡ mark map (blocks_at img g e)
        → bodies_test img g map e (end - e) ≡ bodies_test img g map' (e + 1) (end - (e + 1))
    unfolding bodies_test
    bodies_step right map' is = ap (bodies_test img g map e) (left_of e end below) ∙ simp (right, is)

    pub marks_step : (map' : List ℕ) → map' ≡ mark map (blocks_at img g e) → mark_all img g map e (end - e) ≡ mark_all img g map' (e + 1) (end - (e + 1))
    unfolding mark_all
    marks_step map' is = ap (mark_all img g map e) (left_of e end below) ∙ simp is

    pub bodies_not : placed_test img g map e ≡ false → bodies_test img g map e (end - e) ≡ false
    unfolding bodies_test
    bodies_not wrong = ap (bodies_test img g map e) (left_of e end below) ∙ simp wrong

  module _ (e end : ℕ) (below : e < end) where
    pub names_step : named_test img g e ≡ true → names_test img g e (end - e) ≡ names_test img g (e + 1) (end - (e + 1))
    unfolding names_test
    names_step right = ap (names_test img g e) (left_of e end below) ∙ simp right

    pub names_not : named_test img g e ≡ false → names_test img g e (end - e) ≡ false
    unfolding names_test
    names_not wrong = ap (names_test img g e) (left_of e end below) ∙ simp wrong

  -- what the code finds of a name
  pub named_empty : (e : ℕ) → entry_word img g e 0 ≡ 0 → true ≡ named_test img g e
  unfolding named_test entry_of
  named_empty e none = rw (eq-eqb _ _ none, new_empty img g e none)

  module _ (e : ℕ) (used : entry_word img g e 0 ≡ 0 → ⊥) where
    pub named_wrong : key_test img (entry_of img g e) ≡ false → false ≡ named_test img g e
    unfolding named_test
    named_wrong wrong = sym (first_fails _ (used_key ∙ wrong))
      where
        used_key : cond (eqb (entry_of img g e).name1 0) true (key_test img (entry_of img g e)) ≡ key_test img (entry_of img g e)
        used_key = key_used img g e used

    pub named_new : key_test img (entry_of img g e) ≡ true → (r : Bool) → r ≡ new_test img g e → r ≡ named_test img g e
    unfolding named_test
    named_new right r is = go_on (key_used img g e used ∙ right) is

  -- all but the names, and the names, are the whole
  pub parted : (map : List ℕ) (e k : ℕ) → (bodies_test img g map e k && names_test img g e k) ≡ (scan_test img g map e k && differ_test img g e k)
  unfolding bodies_test names_test named_test scan_test differ_test
  parted map e zero = refl
  parted map e (suc k) =
      rw (← entry_parts img g map e)
      (by (placed_test img g map e) (cond (eqb (entry_of img g e).name1 0) true (key_test img (entry_of img g e))) (new_test img g e)
      (bodies_test img g (mark map (blocks_at img g e)) (e + 1) k) (names_test img g (e + 1) k)
      (scan_test img g (mark map (blocks_at img g e)) (e + 1) k) (differ_test img g (e + 1) k)
      (parted (mark map (blocks_at img g e)) (e + 1) k))
    where
      by : (p q n b m s d : Bool) → (b && m) ≡ (s && d) → ((p && b) && ((q && n) && m)) ≡ (((q && p) && s) && (n && d))
      by true true true b m s d same = same
      by true true false true m true d same = refl
      by true true false true m false d same = refl
      by true true false false m true d same = refl
      by true true false false m false d same = refl
      by true false n true m s d same = refl
      by true false n false m s d same = refl
      by false true n b m s d same = refl
      by false false n b m s d same = refl

  -- entries that are empty are right, and take no block
  module _ (map : List ℕ) where
    bodies_empty : (e k : ℕ) → ((i : ℕ) → e ≤ i → i < e + k → Empty img g i) → bodies_test img g map e k ≡ true
    unfolding bodies_test mark
    bodies_empty e zero all = refl
    bodies_empty e (suc k) all =
        let here = all e (omega arith) (omega arith) in
        and_both (empty_placed img g map e here)
        (ap (λ bs. bodies_test img g (mark map bs) (e + 1) k) (empty_blocks img g e here) ∙ bodies_empty (e + 1) k (λ i low high. all i (omega arith) (omega arith)))

    pub marks_empty : (e k : ℕ) → ((i : ℕ) → e ≤ i → i < e + k → Empty img g i) → mark_all img g map e k ≡ map
    unfolding mark_all mark
    marks_empty e zero all = refl
    marks_empty e (suc k) all =
        ap (λ bs. mark_all img g (mark map bs) (e + 1) k) (empty_blocks img g e (all e (omega arith) (omega arith)))
        ∙ marks_empty (e + 1) k (λ i low high. all i (omega arith) (omega arith))

-- where no more entries are to be looked at, and all that are left are empty
module _ (img : List ℕ) (g : Geometry) (map : List ℕ) (e end : ℕ) (at : UsedEnd img g end) (done : end ≤ e) where
  rest_empty : (i : ℕ) → e ≤ i → i < e + (slots g - e) → Empty img g i
  rest_empty i low high = at.empty i (omega arith) (omega arith)

  pub bodies_end : bodies_test img g map e (slots g - e) ≡ true
  bodies_end = bodies_empty img g map e (slots g - e) rest_empty

  pub marks_end : mark_all img g map e (slots g - e) ≡ map
  marks_end = marks_empty img g map e (slots g - e) rest_empty

names_empty : (img : List ℕ) (g : Geometry) (e k : ℕ) → ((i : ℕ) → e ≤ i → i < e + k → Empty img g i) → names_test img g e k ≡ true
unfolding names_test
names_empty img g e zero all = refl
names_empty img g e (suc k) all =
    and_both (sym (named_empty img g e ((all e (omega arith) (omega arith)).zero 0 (omega arith))))
    (names_empty img g (e + 1) k (λ i low high. all i (omega arith) (omega arith)))

pub names_end : (img : List ℕ) (g : Geometry) (e end : ℕ) → UsedEnd img g end → end ≤ e → names_test img g e (slots g - e) ≡ true
names_end img g e end at done = names_empty img g e (slots g - e) (λ i low high. at.empty i (omega (arith, low, done)) (omega (arith, low, high)))

pub names_none : (img : List ℕ) (g : Geometry) {end : ℕ} → UsedEnd img g end → end < 1 → names_test img g 0 (slots g) ≡ true
names_none img g at none = names_empty img g 0 (slots g) (λ i low high. at.empty i (omega (arith, none)) (omega (arith, high)))
