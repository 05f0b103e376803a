-- The free run with the highest start: it is free and no run that starts higher is, and there is none exactly if no run is free.
use Prim.Native.Nat.{ℕ, suc, zero, ◌+◌, ◌-◌, ◌≤◌, ◌<◌}
use mathlib.Core.Path.{◌≡◌, refl, sym, ap, subst, ◌∙◌}
use mathlib.Core.Logic.{◌↔◌}
use mathlib.Core.Bool.{Bool, true, false}
use mathlib.Core.List.{List}
use mathlib.Core.Option.{Option, none, some}
use native.Mathlib.Omega.{arith}
use native.Mathlib.Decide.{ℕ_discrete}
use lib.Dec.{leb, ltb}
use borrow.Author.Tests.{eq-eqb, eqb-true, ltb-true, lt-ltb, leb-true, le-leb}
use Rattle.pack.specs.Geometry.{geometry_of}
use Rattle.pack.specs.Owner.{FreeBlock}
use Rattle.answers.proofs.RefusalsTests.{and_left, and_right, and_both, true_not_false}
use Rattle.owners.proofs.OwnerPlaces.{neither_below}
use Rattle.room.specs.RoomTest.{is_free_block, are_free, run_below, highest_run}
use Rattle.room.specs.Room.{FreeRun, HighestRun}

module _ (img : List ℕ) where
  -- "Free: above c and in no file."
  pub free_iff : (b : ℕ) → is_free_block img b ≡ true ↔ FreeBlock img b
  unfolding is_free_block
  free_iff b = (
    λ t.
        let rest = and_right (leb (geometry_of img).bodies.0 b) _ t in
        record {
          body = leb-true _ _ (and_left (leb (geometry_of img).bodies.0 b) _ t);
          below = ltb-true _ _ (and_left (ltb b (geometry_of img).blocks) _ rest);
          nobody = eqb-true _ _ (and_right (ltb b (geometry_of img).blocks) _ rest);
        },
    λ free. and_both (le-leb _ _ free.body) (and_both (lt-ltb _ _ free.below) (eq-eqb _ _ free.nobody)),
  )

  all_free : (b k : ℕ) → are_free img b k ≡ true → FreeRun img k b
  unfolding are_free
  all_free b zero t = record { free = λ x low high. absurd (omega arith) }
  all_free b (suc k) t =
      let here = (free_iff b).0 (and_left (is_free_block img b) (are_free img (b + 1) k) t) in
      let rest = all_free (b + 1) k (and_right (is_free_block img b) (are_free img (b + 1) k) t) in
      record {
        free = λ x low high. elim (ℕ_discrete b x) [
          | yes is ↦ subst (FreeBlock img) is here
          | no other ↦ rest.free x (omega (arith, other)) (omega arith)
        ];
      }

  free_all : (b k : ℕ) → FreeRun img k b → are_free img b k ≡ true
  unfolding are_free
  free_all b zero run = refl
  free_all b (suc k) run =
      and_both ((free_iff b).1 (run.free b (omega arith) (omega arith)))
      (free_all (b + 1) k (record { free = λ x low high. run.free x (omega arith) (omega arith) }))

  pub run_iff : (length s : ℕ) → are_free img s length ≡ true ↔ FreeRun img length s
  run_iff length s = (all_free s length, free_all s length)

  module _ (length : ℕ) where
    -- among the starts below a number
    record Below (n s : ℕ) : Type 0 where
      less : s < n
      run : FreeRun img length s
      highest : (t : ℕ) → s < t → t < n → FreeRun img length t → ⊥

    below_some : (n s : ℕ) → run_below img length n ≡ some s → Below n s
    unfolding run_below
    below_some zero s is = let z : ◌≡◌ {A = ℕ} 0 1 = cc in absurd (omega arith)
    below_some (suc n) s is = by (are_free img n length) refl (below_some n s)
      where
        by : (t : Bool) → are_free img n length ≡ t → (run_below img length n ≡ some s → Below n s) → Below (suc n) s
        by true t lower =
            let at : ◌≡◌ {A = Option ℕ} (some n) (some s) = rw t at is in
            let same : n ≡ s = cc in
            record { less = omega arith; run = subst (FreeRun img length) same (all_free n length t); highest = λ x more below. absurd (omega arith) }
        by false t lower =
            let found = lower (rw t at is) in
            record {
              less = omega (arith, found.less);
              run = found.run;
              highest = λ x more below run. elim (ℕ_discrete x n) [
                | yes same ↦ true_not_false (sym (free_all n length (subst (FreeRun img length) same run)) ∙ t)
                | no other ↦ found.highest x more (omega (arith, other)) run
              ];
            }

    below_none : (n : ℕ) → run_below img length n ≡ none → (t : ℕ) → t < n → FreeRun img length t → ⊥
    unfolding run_below
    below_none zero is t below run = absurd (omega arith)
    below_none (suc n) is t below run = by (are_free img n length) refl (ℕ_discrete t n) (below_none n)
      where
        by : (free : Bool) → are_free img n length ≡ free → Dec (t ≡ n) → (run_below img length n ≡ none → (x : ℕ) → x < n → FreeRun img length x → ⊥) → ⊥
        by true free d lower = let at : ◌≡◌ {A = Option ℕ} (some n) none = rw free at is in let z : ◌≡◌ {A = ℕ} 0 1 = cc in omega arith
        by false free (yes same) lower = true_not_false (sym (free_all n length (subst (FreeRun img length) same run)) ∙ free)
        by false free (no other) lower = lower (rw free at is) t (omega (arith, other)) run

    module _ (positive : 0 < length) where
      -- a run that is free starts in the pack
      start_below : (t : ℕ) → FreeRun img length t → t < (geometry_of img).blocks
      start_below t run = (run.free t (omega arith) (omega arith)).below

      -- and ends there
      pub run_inside : (s : ℕ) → FreeRun img length s → s + length ≤ (geometry_of img).blocks
      run_inside s run = omega (arith, (run.free (s + length - 1) (omega arith) (omega arith)).below)

      pub run_highest : (s : ℕ) → highest_run img length ≡ some s → HighestRun img length s
      unfolding highest_run
      run_highest s is =
          let found = below_some (geometry_of img).blocks s is in
          record { run = found.run; highest = λ t more run. found.highest t more (start_below t run) run }

      pub run_none : highest_run img length ≡ none ↔ ((s : ℕ) → FreeRun img length s → ⊥)
      unfolding highest_run
      run_none = (
        λ is s run. below_none (geometry_of img).blocks is s (start_below s run) run,
        λ never. by never (run_below img length (geometry_of img).blocks) refl,
      )
        where
          by : ((s : ℕ) → FreeRun img length s → ⊥) → (o : Option ℕ) → run_below img length (geometry_of img).blocks ≡ o
              → run_below img length (geometry_of img).blocks ≡ none
          by never none is = is
          by never (some s) is = absurd (never s (below_some (geometry_of img).blocks s is).run)

      -- there is one highest start
      pub highest_iff : (s : ℕ) → highest_run img length ≡ some s ↔ HighestRun img length s
      highest_iff s = (run_highest s, λ highest. by highest (highest_run img length) refl)
        where
          by : HighestRun img length s → (o : Option ℕ) → highest_run img length ≡ o → highest_run img length ≡ some s
          by highest none is = absurd (run_none.0 is s highest.run)
          by highest (some t) is =
              let found = run_highest t is in
              is ∙ ap some (neither_below t s (λ less. found.highest s less highest.run) (λ more. highest.highest t more found.run))
