-- The free run sought downwards with a count of free blocks: the step laws of the loop, and that the map says what the image says.
use Prim.Native.Nat.{ℕ, suc, zero, ◌+◌, ◌-◌, ◌≤◌, ◌<◌}
use mathlib.Core.Path.{◌≡◌, refl, sym, ap, subst, ◌∙◌}
use mathlib.Core.Bool.{Bool, true, false, cond, ◌&&◌}
use mathlib.Core.List.{List}
use mathlib.Core.Option.{none, some}
use native.Mathlib.Omega.{arith}
use native.Mathlib.Decide.{ℕ_discrete, dec_le, dec_lt}
use lib.Dec.{eqb, leb, ltb}
use lib.ListN.{get_or}
use borrow.Author.Tests.{eq-eqb, ne_eqb, lt-ltb, le-ltb, le-leb, lt-leb}
use Rattle.pack.specs.declared.Geometry.{Geometry}
use Rattle.pack.specs.Geometry.{geometry_of}
use Rattle.answers.proofs.RefusalsTests.{and_both}
use Rattle.room.specs.RoomTest.{is_free_block, are_free, run_below, highest_run}
use Rattle.room.specs.RoomMap.{Says, is_free_on, is_free_body, SomeBelow, HeldFrom, NoneFrom, are_free_on, run_on, free_after, free_from}

-- the count behind one block more
pub after_free : (times free : ℕ) → times ≡ 0 → free + 1 ≡ free_after (eqb times 0) free
unfolding free_after
after_free times free is = rw (eq-eqb times 0 is)

pub after_held : (times free : ℕ) → (times ≡ 0 → ⊥) → 0 ≡ free_after (eqb times 0) free
unfolding free_after
after_held times free never = rw (ne_eqb times 0 never)

after_most : (is_free : Bool) (free : ℕ) → free_after is_free free ≤ free + 1
unfolding free_after
after_most true free = omega arith
after_most false free = omega arith

-- so it passes no length by more than one block
pub after_short : (is_free : Bool) (free next length : ℕ) → next ≡ free_after is_free free → free < length → (next ≡ length → ⊥) → next < length
after_short is_free free next length counted short other = omega (arith, counted, after_most is_free free, other)

-- blocks that are held: one more, and so many more in front
pub held_more : {map : List ℕ} {from end next : ℕ} → HeldFrom map from end → (get_or map end 0 ≡ 0 → ⊥) → next ≡ end + 1 → HeldFrom map from next
held_more {map} {from} {end} held here is-next = record {
  within = omega (arith, held.within);
  never = λ b low high. elim (ℕ_discrete b end) [
    | yes is ↦ subst (λ (x : ℕ). get_or map x 0 ≡ 0 → ⊥) (sym is) here
    | no other ↦ held.never b low (omega (arith, other))
  ];
}

pub held_front : {map : List ℕ} {from middle b end : ℕ} → HeldFrom map from middle → middle ≡ b → HeldFrom map b end → HeldFrom map from end
held_front {map} {from} {middle} front is back = record {
  within = omega (arith, front.within, back.within);
  never = λ x low high. elim (dec_lt x middle) [
    | yes below ↦ front.never x low below
    | no not ↦ back.never x (omega (arith, not)) high
  ];
}

-- a free block is not among them
free_below_law : {map : List ℕ} {from end z : ℕ} → HeldFrom map from end → get_or map z 0 ≡ 0 → z < end → z < from
free_below_law {map} {from} {end} {z} held nobody below = by (dec_lt z from)
  where
    by : Dec (z < from) → z < from
    by (yes is) = is
    by (no not) = absurd (held.never z (omega (arith, not)) below nobody)

module _ (map : List ℕ) where
  pub from_most : (b k : ℕ) → free_from map b k ≤ k
  unfolding free_from
  from_most b zero = omega arith
  from_most b (suc k) = omega (arith, after_most (is_free_on map b) (free_from map (b + 1) k), from_most (b + 1) k)

  from_none : (b k : ℕ) → k ≡ 0 → free_from map b k ≡ 0
  unfolding free_from
  from_none b k is = ap (free_from map b) is

  from_step : (b end : ℕ) → b < end → free_from map b (end - b) ≡ free_after (is_free_on map b) (free_from map (b + 1) (end - (b + 1)))
  unfolding free_from
  from_step b end less = let left : end - b ≡ suc (end - (b + 1)) = omega arith in ap (free_from map b) left

  -- where all behind are held nothing is counted yet
  pub from_held : (b end : ℕ) → HeldFrom map b end → 0 ≡ free_from map b (end - b)
  from_held b end held = by (dec_lt b end)
    where
      by : Dec (b < end) → 0 ≡ free_from map b (end - b)
      by (yes less) = after_held (get_or map b 0) _ (held.never b (omega arith) less) ∙ sym (from_step b end less)
      by (no not) = let none_left : end - b ≡ 0 = omega (arith, not) in sym (from_none b (end - b) none_left)

  -- one block down
  pub from_down : (end b free next : ℕ) → 0 < b → b ≤ end → free ≡ free_from map b (end - b) → next ≡ free_after (is_free_on map (b - 1)) free
      → next ≡ free_from map (b - 1) (end - (b - 1))
  from_down end b free next positive below is counted =
      let up : b - 1 + 1 ≡ b = omega arith in
      counted
      ∙ ap (free_after (is_free_on map (b - 1))) is
      ∙ sym (from_step (b - 1) end (omega arith) ∙ ap (λ (x : ℕ). free_after (is_free_on map (b - 1)) (free_from map x (end - x))) up)

  module _ (low end : ℕ) where
    free_here : (b : ℕ) → low ≤ b → b < end → get_or map b 0 ≡ 0 → is_free_body map low end b ≡ true
    unfolding is_free_body
    free_here b above below is = and_both (le-leb low b above) (and_both (lt-ltb b end below) (eq-eqb (get_or map b 0) 0 is))

    held_here : (b : ℕ) → (get_or map b 0 ≡ 0 → ⊥) → is_free_body map low end b ≡ false
    unfolding is_free_body
    held_here b never = rw (ne_eqb (get_or map b 0) 0 never) (by (leb low b) (ltb b end))
      where
        by : (above below : Bool) → (above && (below && false)) ≡ false
        by true true = refl
        by true false = refl
        by false below = refl

    past_here : (b : ℕ) → low ≤ b → end ≤ b → is_free_body map low end b ≡ false
    unfolding is_free_body
    past_here b above past = rw (le-leb low b above, le-ltb b end past)

    before_here : (b : ℕ) → b < low → is_free_body map low end b ≡ false
    unfolding is_free_body
    before_here b below = rw (lt-leb low b below)

    one_more : (k free : ℕ) → leb k free ≡ leb (suc k) (free + 1)
    one_more k free = by (dec_le k free)
      where
        by : Dec (k ≤ free) → leb k free ≡ leb (suc k) (free + 1)
        by (yes is) = le-leb k free is ∙ sym (le-leb (suc k) (free + 1) (omega arith))
        by (no not) = lt-leb k free (omega (arith, not)) ∙ sym (lt-leb (suc k) (free + 1) (omega (arith, not)))

    -- a run of a length is free exactly if the count is at least that
    pub free_counted : (length b : ℕ) → low ≤ b → are_free_on map low end b length ≡ leb length (free_from map b (end - b))
    unfolding are_free_on
    free_counted zero b above = sym (le-leb 0 (free_from map b (end - b)) (omega arith))
    free_counted (suc k) b above = by (dec_lt b end) (ℕ_discrete (get_or map b 0) 0) (free_counted k (b + 1) (omega arith))
      where
        by : Dec (b < end) → Dec (get_or map b 0 ≡ 0) → are_free_on map low end (b + 1) k ≡ leb k (free_from map (b + 1) (end - (b + 1)))
            → (is_free_body map low end b && are_free_on map low end (b + 1) k) ≡ leb (suc k) (free_from map b (end - b))
        by (yes below) (yes is) later =
            rw (free_here b above below is)
            (later ∙ (one_more k (free_from map (b + 1) (end - (b + 1))) ∙ ap (leb (suc k)) (after_free (get_or map b 0) _ is ∙ sym (from_step b end below))))
        by (yes below) (no never) later =
            rw (held_here b never)
            (sym (lt-leb (suc k) (free_from map b (end - b)) (omega (arith, from_step b end below, after_held (get_or map b 0) (free_from map (b + 1) (end - (b + 1))) never))))
        by (no past) d later =
            let none_left : end - b ≡ 0 = omega (arith, past) in
            rw (past_here b above (omega (arith, past)))
            (sym (lt-leb (suc k) (free_from map b (end - b)) (omega (arith, from_none b (end - b) none_left))))

    module _ (length : ℕ) where
      run_step : (b : ℕ) → 0 < b → run_on map low end length b ≡ cond (are_free_on map low end (b - 1) length) (some (b - 1)) (run_on map low end length (b - 1))
      unfolding run_on
      run_step b positive = let up : b ≡ suc (b - 1) = omega arith in ap (run_on map low end length) up

      -- the count has come to the length: here the run starts
      pub run_here : (b free : ℕ) → low < b → free ≡ free_from map (b - 1) (end - (b - 1)) → free ≡ length → run_on map low end length b ≡ some (b - 1)
      run_here b free above is reached =
          run_step b (omega arith)
          ∙ rw (free_counted length (b - 1) (omega arith) ∙ le-leb length (free_from map (b - 1) (end - (b - 1))) (omega (arith, is, reached)))

      pub run_next : (b free : ℕ) → low < b → free ≡ free_from map (b - 1) (end - (b - 1)) → free < length
          → run_on map low end length b ≡ run_on map low end length (b - 1)
      run_next b free above is short =
          run_step b (omega arith)
          ∙ rw (free_counted length (b - 1) (omega arith) ∙ lt-leb length (free_from map (b - 1) (end - (b - 1))) (omega (arith, is, short)))

      -- a run is not free whose first block is not
      first_not : (b : ℕ) → is_free_body map low end b ≡ false → 0 < length → are_free_on map low end b length ≡ false
      unfolding are_free_on
      first_not b not positive =
          let one-at-least : length ≡ suc (length - 1) = omega arith in
          ap (are_free_on map low end b) one-at-least ∙ rw not

      pub run_end : (b : ℕ) → b ≤ low → 0 < length → run_on map low end length b ≡ none
      unfolding run_on
      run_end zero below positive = refl
      run_end (suc b) below positive = rw (first_not b (before_here b (omega arith)) positive) (run_end b (omega arith) positive)

      -- blocks that are held may be passed
      pub run_held : {b from : ℕ} → HeldFrom map b from → 0 < length → run_on map low end length from ≡ run_on map low end length b
      run_held {b} {from} held positive =
          let all : b + (from - b) ≡ from = omega (arith, held.within) in
          ap (run_on map low end length) (sym all) ∙ by (from - b) (omega (arith, held.within))
        where
          by : (k : ℕ) → b + k ≤ from → run_on map low end length (b + k) ≡ run_on map low end length b
          by zero below = let here : b + 0 ≡ b = omega arith in ap (run_on map low end length) here
          by (suc k) below =
              let down : b + suc k - 1 ≡ b + k = omega arith in
              let not : are_free_on map low end (b + suc k - 1) length ≡ false =
              first_not (b + suc k - 1) (held_here (b + suc k - 1) (held.never (b + suc k - 1) (omega arith) (omega arith))) positive in
              run_step (b + suc k) (omega arith) ∙ rw not (ap (run_on map low end length) down) ∙ by k (omega arith)

    -- a run of one block
    one_here : (b : ℕ) → low < b → b ≤ end → get_or map (b - 1) 0 ≡ 0 → run_on map low end 1 b ≡ some (b - 1)
    unfolding are_free_on
    one_here b above below is = run_step 1 b (omega arith) ∙ rw (free_here (b - 1) (omega arith) (omega arith) is)

-- a block is known to be free: the search for the highest passes held ones, and those that it skipped first, and ends at a free one
module _ {map : List ℕ} {g : Geometry} {from skipped : ℕ} (known : SomeBelow map g from) (first : HeldFrom map skipped from) where
  pub search_starts : 0 < skipped
  search_starts = omega (arith, free_below_law first known.free.nobody known.less)

  module _ (b : ℕ) (passed : HeldFrom map (b + 1) (skipped - 1 + 1)) where
    all_passed : HeldFrom map (b + 1) from
    all_passed = held_front passed (omega (arith, search_starts)) first

    pub search_ends : from ≤ g.blocks → get_or map b 0 ≡ 0 → some b ≡ run_on map g.bodies.0 g.blocks 1 from
    search_ends below nobody =
        let here : b + 1 - 1 ≡ b = omega arith in
        let above : known.block < b + 1 = free_below_law all_passed known.free.nobody known.less in
        sym (run_held map g.bodies.0 g.blocks 1 all_passed (omega arith)
        ∙ one_here map g.bodies.0 g.blocks (b + 1) (omega (arith, above, known.free.body)) (omega (arith, all_passed.within, below))
        (ap (λ (x : ℕ). get_or map x 0) here ∙ nobody)
        ∙ ap some here)

-- where none is free from a block on, the search may begin there; none is behind the last block
pub none_above : {map : List ℕ} {g : Geometry} → NoneFrom map g g.blocks
none_above = record { within = omega arith; never = λ b low high. absurd (omega arith) }

pub one_from : {map : List ℕ} {g : Geometry} {from : ℕ} → NoneFrom map g from
    → run_on map g.bodies.0 g.blocks 1 from ≡ run_on map g.bodies.0 g.blocks 1 g.blocks
one_from {map} {g} none_free = sym (run_held map g.bodies.0 g.blocks 1 (record { within = none_free.within; never = none_free.never }) (omega arith))

-- a map that says how often each block is held
module _ (img map : List ℕ) (says : Says map img) where
  free_says : (b : ℕ) → is_free_body map (geometry_of img).bodies.0 (geometry_of img).blocks b ≡ is_free_block img b
  unfolding is_free_body is_free_block
  free_says b = rw (says b)

  all_says : (b k : ℕ) → are_free_on map (geometry_of img).bodies.0 (geometry_of img).blocks b k ≡ are_free img b k
  unfolding are_free_on are_free
  all_says b zero = refl
  all_says b (suc k) = rw (free_says b, all_says (b + 1) k)

  run_says : (length s : ℕ) → run_on map (geometry_of img).bodies.0 (geometry_of img).blocks length s ≡ run_below img length s
  unfolding run_on run_below
  run_says length zero = refl
  run_says length (suc s) = rw (all_says s length, run_says length s)

  pub run_is : (g : Geometry) → geometry_of img ≡ g → (length : ℕ) → run_on map g.bodies.0 g.blocks length g.blocks ≡ highest_run img length
  unfolding highest_run
  run_is g measures length =
      subst (λ (h : Geometry). run_on map h.bodies.0 h.blocks length h.blocks ≡ run_below img length (geometry_of img).blocks) measures
      (run_says length (geometry_of img).blocks)
