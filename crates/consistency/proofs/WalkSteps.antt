-- A walk over the blocks of a file, step by step: how it goes on, where it stops, where it ends.
use Prim.Native.Nat.{ℕ, suc, zero, ◌+◌, ◌-◌, ◌≤◌, ◌<◌}
use mathlib.Core.Path.{◌≡◌, refl, sym, ap, ◌∙◌}
use mathlib.Core.Bool.{Bool, true, false, ◌&&◌}
use mathlib.Core.List.{List}
use native.Mathlib.Omega.{arith}
use lib.ListN.{length, get_or, set, length-set}
use lib.Dec.{eqb, leb, ltb}
use borrow.Author.Tests.{lt-ltb, le-ltb, le-leb, eq-eqb, ne_eqb, ltb-true, eqb-true}
use Rattle.pack.specs.declared.Geometry.{Geometry}
use Rattle.pack.specs.File.{next_of, chain, after, last_of}
use Rattle.answers.proofs.RefusalsTests.{down, true_not_false, first_fails, second_fails, go_on, parts}
use Rattle.consistency.specs.Walk.{takes, mark, blocks_from, SystemTaken, RunTaken}
use Rattle.consistency.specs.EntryTest.{run_test, chain_test}
use Rattle.consistency.proofs.WalkSystem.{taken_set, untaken_body}

-- the blocks taken so far: those that are left, from b on, decide what is marked, and the system's stay taken
pub record Walking (img : List ℕ) (g : Geometry) (kind : ℕ) (map₀ : List ℕ) (count first : ℕ) (map : List ℕ) (left b : ℕ) : Type 0 where
  pub long : length map ≡ length map₀
  pub system : SystemTaken map g
  pub marks : mark map₀ (blocks_from img g kind count first) ≡ mark map (blocks_from img g kind left b)

pub walking_starts : (img : List ℕ) (g : Geometry) (kind : ℕ) (map : List ℕ) (count first : ℕ) → SystemTaken map g → Walking img g kind map count first map count first
walking_starts img g kind map count first system = record { long = refl; system = system; marks = refl }

module _ (img : List ℕ) (g : Geometry) (kind : ℕ) (map : List ℕ) (left b : ℕ) where
  mark_step : 0 < left → (next : ℕ) → next ≡ next_of img g kind b → mark map (blocks_from img g kind left b) ≡ mark (set map b 1) (blocks_from img g kind (left - 1) next)
  unfolding mark blocks_from chain
  mark_step more next is = ap (λ (k : ℕ). mark map (blocks_from img g kind k b)) (down left more) ∙ simp is

  mark_end : left ≡ 0 → mark map (blocks_from img g kind left b) ≡ map
  unfolding mark blocks_from chain
  mark_end none = ap (λ (k : ℕ). mark map (blocks_from img g kind k b)) none

  pub takes_step : 0 < left → SystemTaken map g → b < g.blocks → get_or map b 0 ≡ 0 → (next : ℕ) → next ≡ next_of img g kind b
      → takes g.bodies.0 g.blocks map (blocks_from img g kind left b) ≡ takes g.bodies.0 g.blocks (set map b 1) (blocks_from img g kind (left - 1) next)
  unfolding blocks_from chain takes
  takes_step more system below free next is =
      ap (λ (k : ℕ). takes g.bodies.0 g.blocks map (blocks_from img g kind k b)) (down left more)
      ∙ simp (le-leb _ _ (untaken_body system b free), lt-ltb _ _ below, eq-eqb _ _ free, is)

  pub takes_not : 0 < left → (ltb b g.blocks && eqb (get_or map b 0) 0) ≡ false → takes g.bodies.0 g.blocks map (blocks_from img g kind left b) ≡ false
  unfolding blocks_from chain takes
  takes_not more fails =
      ap (λ (k : ℕ). takes g.bodies.0 g.blocks map (blocks_from img g kind k b)) (down left more)
      ∙ second_fails (leb g.bodies.0 b) (never (ltb b g.blocks) (eqb (get_or map b 0) 0) _ fails)
    where
      never : (x y z : Bool) → (x && y) ≡ false → (x && (y && z)) ≡ false
      never true true z is = true_not_false is
      never true false z is = refl
      never false y z is = refl

  pub takes_end : left ≡ 0 → takes g.bodies.0 g.blocks map (blocks_from img g kind left b) ≡ true
  unfolding blocks_from chain takes
  takes_end none = ap (λ (k : ℕ). takes g.bodies.0 g.blocks map (blocks_from img g kind k b)) none

module _ {img : List ℕ} {g : Geometry} {kind : ℕ} {map₀ : List ℕ} {count first : ℕ} {map : List ℕ} {left b : ℕ} (w : Walking img g kind map₀ count first map left b) where
  pub walking_on : 0 < left → {map' : List ℕ} → map' ≡ set map b 1 → {next : ℕ} → next ≡ next_of img g kind b → {less : ℕ} → less ≡ left - 1
      → Walking img g kind map₀ count first map' less next
  walking_on more made is fewer =
      rw (made, fewer)
      (record {
        long = length-set map b 1 ∙ w.long;
        system = taken_set b w.system;
        marks = w.marks ∙ mark_step img g kind map left b more _ is;
      })

  pub walking_ends : left ≡ 0 → map ≡ mark map₀ (blocks_from img g kind count first)
  walking_ends none = sym (w.marks ∙ mark_end img g kind map left b none)

-- the whole test of a chain: at a block b with more to walk, `other` is the block before it
module _ (img : List ℕ) (g : Geometry) (map : List ℕ) (other left b stored : ℕ) where
  last_step : 0 < left → last_of (next_of img g 2) other left b ≡ last_of (next_of img g 2) b (left - 1) (next_of img g 2 b)
  unfolding last_of
  last_step more = ap (λ (k : ℕ). last_of (next_of img g 2) other k b) (down left more)

  after_step : 0 < left → after (next_of img g 2) left b ≡ after (next_of img g 2) (left - 1) (next_of img g 2 b)
  unfolding after
  after_step more = ap (λ (k : ℕ). after (next_of img g 2) k b) (down left more)

  pub chain_on : 0 < left → SystemTaken map g → (ltb b g.blocks && eqb (get_or map b 0) 0) ≡ true → {map' : List ℕ} → map' ≡ set map b 1
      → {next : ℕ} → next ≡ next_of img g 2 b → {less : ℕ} → less ≡ left - 1 → chain_test img g map other left b stored ≡ chain_test img g map' b less next stored
  unfolding chain_test
  chain_on more system both made {next} is fewer =
      let tests = parts (ltb b g.blocks) _ both in
      rw (
        made,
        fewer,
        takes_step img g 2 map left b more system (ltb-true _ _ tests.0) (eqb-true _ 0 tests.1) next is,
        last_step more,
        after_step more,
      )
      (rw is)

  pub chain_stops : 0 < left → (ltb b g.blocks && eqb (get_or map b 0) 0) ≡ false → chain_test img g map other left b stored ≡ false
  unfolding chain_test
  chain_stops more fails = first_fails _ (takes_not img g 2 map left b more fails)

  pub chain_ends : left ≡ 0 → chain_test img g map other left b stored ≡ (eqb other stored && eqb b 0)
  unfolding chain_test blocks_from chain takes last_of after
  chain_ends none = ap (λ (k : ℕ). chain_test img g map other k b stored) none

-- the last block of a contiguous file
run : (img : List ℕ) (g : Geometry) (other k b : ℕ) → last_of (next_of img g 1) other (suc k) b + 1 ≡ b + suc k
unfolding last_of next_of
run img g other zero b = omega arith
run img g other (suc k) b = omega (arith, run img g b k (b + 1))

pub last_run : (img : List ℕ) (g : Geometry) (other length first : ℕ) → 1 ≤ length → last_of (next_of img g 1) other length first + 1 ≡ first + length
last_run img g other zero first some = absurd (omega arith)
last_run img g other (suc k) first some = run img g other k first

-- a run of blocks: those that are left, from b on, decide
pub record Running (map₀ : List ℕ) (first behind : ℕ) (map : List ℕ) (b : ℕ) : Type 0 where
  pub long : length map ≡ length map₀
  pub system : (g : Geometry) → SystemTaken map₀ g → SystemTaken map g
  pub taken : (img : List ℕ) (g : Geometry) → SystemTaken map₀ g → behind ≤ g.blocks
      → takes g.bodies.0 g.blocks map₀ (blocks_from img g 1 (behind - first) first) ≡ takes g.bodies.0 g.blocks map (blocks_from img g 1 (behind - b) b)
  pub marks : (img : List ℕ) (g : Geometry) → mark map₀ (blocks_from img g 1 (behind - first) first) ≡ mark map (blocks_from img g 1 (behind - b) b)

follows : (img : List ℕ) (g : Geometry) (b : ℕ) → b + 1 ≡ next_of img g 1 b
unfolding next_of
follows img g b = refl

module _ {map₀ : List ℕ} {first behind : ℕ} {map : List ℕ} {b : ℕ} (run : Running map₀ first behind map b) where
  module _ (more : b < behind) where
    less : (behind - b) - 1 ≡ behind - (b + 1)
    less = omega arith

    pub running_on : get_or map b 0 ≡ 0 → Running map₀ first behind (set map b 1) (b + 1)
    running_on free =
        record {
          long = length-set map b 1 ∙ run.long;
          system = λ g here. taken_set b (run.system g here);
          taken = λ img g here inside.
              run.taken img g here inside
              ∙ takes_step img g 1 map (behind - b) b (omega (arith, more)) (run.system g here) (omega (arith, more, inside)) free (b + 1) (follows img g b)
              ∙ ap (λ (k : ℕ). takes g.bodies.0 g.blocks (set map b 1) (blocks_from img g 1 k (b + 1))) less;
          marks = λ img g.
              run.marks img g
              ∙ mark_step img g 1 map (behind - b) b (omega (arith, more)) (b + 1) (follows img g b)
              ∙ ap (λ (k : ℕ). mark (set map b 1) (blocks_from img g 1 k (b + 1))) less;
        }

    pub running_stops : (get_or map b 0 ≡ 0 → ⊥) → {map' : List ℕ} → RunTaken map₀ first behind false map'
    running_stops held =
        record {
          taken = λ img g here inside.
              sym (run.taken img g here inside
              ∙ takes_not img g 1 map (behind - b) b (omega (arith, more)) (second_fails (ltb b g.blocks) (ne_eqb _ _ held)));
          marked = λ img g never. true_not_false (sym never);
        }

  pub running_ends : behind ≤ b → RunTaken map₀ first behind true map
  running_ends done =
      record {
        taken = λ img g here inside. sym (run.taken img g here inside ∙ takes_end img g 1 map (behind - b) b (omega (arith, done)));
        marked = λ img g _. sym (run.marks img g ∙ mark_end img g 1 map (behind - b) b (omega (arith, done)));
      }

-- a run that ends behind the pack cannot be taken
run_beyond : (img : List ℕ) (g : Geometry) (map : List ℕ) (k first : ℕ) → g.blocks < first + suc k
    → takes g.bodies.0 g.blocks map (blocks_from img g 1 (suc k) first) ≡ false
unfolding takes blocks_from chain
run_beyond img g map zero first high = second_fails (leb g.bodies.0 first) (first_fails _ (le-ltb first g.blocks (omega (arith, high))))
run_beyond img g map (suc k) first high =
    second_fails (leb g.bodies.0 first)
    (second_fails (ltb first g.blocks)
    (second_fails (eqb (get_or map first 0) 0)
    (ap (λ (n : ℕ). takes g.bodies.0 g.blocks (set map first 1) (chain (next_of img g 1) (suc k) n)) (sym (follows img g first))
    ∙ run_beyond img g (set map first 1) k (first + 1) (omega (arith, high)))))

-- the blocks of a run, counted from its first
module _ (img : List ℕ) (g : Geometry) (map : List ℕ) (first count : ℕ) where
  counted : (first + count) - first ≡ count
  counted = omega arith

  pub run_again : {r : Bool} → r ≡ takes g.bodies.0 g.blocks map (blocks_from img g 1 ((first + count) - first) first)
      → r ≡ takes g.bodies.0 g.blocks map (blocks_from img g 1 count first)
  run_again is = is ∙ ap (λ (k : ℕ). takes g.bodies.0 g.blocks map (blocks_from img g 1 k first)) counted

  pub marks_again : mark map (blocks_from img g 1 ((first + count) - first) first) ≡ mark map (blocks_from img g 1 count first)
  marks_again = ap (λ (k : ℕ). mark map (blocks_from img g 1 k first)) counted

-- the whole test of a run
module _ (img : List ℕ) (g : Geometry) (map : List ℕ) (count first stored : ℕ) where
  pub run_none : count < 1 → false ≡ run_test img g map count first stored
  unfolding run_test
  run_none none = sym (first_fails _ (le-ltb 0 count (omega (arith, none))))

  module _ (some : 1 ≤ count) where
    pub run_high : g.blocks < first + count → false ≡ run_test img g map count first stored
    unfolding run_test
    run_high high =
        let sized : count ≡ suc (count - 1) = omega (arith, some) in
        sym (second_fails (ltb 0 count) (first_fails _
        (ap (λ (k : ℕ). takes g.bodies.0 g.blocks map (blocks_from img g 1 k first)) sized ∙ run_beyond img g map (count - 1) first (omega (arith, high, some)))))

    pub run_other : (first + count ≡ stored + 1 → ⊥) → false ≡ run_test img g map count first stored
    unfolding run_test
    run_other other =
        sym (second_fails (ltb 0 count) (second_fails (takes g.bodies.0 g.blocks map (blocks_from img g 1 count first))
        (ne_eqb (last_of (next_of img g 1) 0 count first) stored (λ same. other (omega (arith, same, last_run img g 0 count first some))))))

    pub run_whole : first + count ≡ stored + 1 → (r : Bool) → r ≡ takes g.bodies.0 g.blocks map (blocks_from img g 1 count first)
        → r ≡ run_test img g map count first stored
    unfolding run_test
    run_whole same r is = go_on (lt-ltb 0 count (omega (arith, some))) (is ∙ last (takes g.bodies.0 g.blocks map (blocks_from img g 1 count first)))
      where
        last : (t : Bool) → t ≡ (t && eqb (last_of (next_of img g 1) 0 count first) stored)
        last true = sym (eq-eqb (last_of (next_of img g 1) 0 count first) stored (omega (arith, same, last_run img g 0 count first some)))
        last false = refl
