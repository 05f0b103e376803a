-- A number sought upwards: that nothing was wrong so far, found, not found, and one search behind another; and what `find` says of a range.
use Prim.Native.Nat.{ℕ, ◌+◌, ◌≤◌, ◌<◌}
use mathlib.Core.Path.{◌≡◌, sym, subst}
use mathlib.Core.Bool.{Bool, true, false}
use mathlib.Core.List.{List}
use native.Mathlib.Omega.{arith}
use native.Mathlib.Decide.{ℕ_discrete, dec_lt}
use denote.Ref.{Bor}
use denote.Param.Members.{Mut}
use Rattle.std.specs.Prelude.{Option, Some, None, MatchOption, is_some, ⊤}
use Rattle.std.specs.declared.ops.Range.{Range}
use Rattle.std.specs.Fn.{CalledAt}
use Rattle.std.specs.Iterator.{YieldsThen}
use Rattle.std.specs.List.{FoldsTo}
use Rattle.std.proofs.iter.Yields.{nat_range_steps}
use Rattle.std.proofs.lemmas.Iterator.{first_from_Range}
use Rattle.answers.proofs.RefusalsTests.{true_not_false}
use Rattle.faults.specs.Looking.{FirstWrong, Sought}

module _ {Right : ℕ → Type 0} where
  pub sought_none : {from : ℕ} → FirstWrong Right from from from
  sought_none = record { low = omega arith; high = omega arith; before = λ i low less. absurd (omega arith); wrong = λ less. absurd (omega arith) }

  pub sought_on : {from at : ℕ} → FirstWrong Right from at at → Right at → FirstWrong Right from (at + 1) (at + 1)
  sought_on {from} {at} so_far here =
      record {
        low = omega (arith, so_far.low);
        high = omega arith;
        before = λ i low less. elim (ℕ_discrete at i) [
          | yes is ↦ subst Right is here
          | no other ↦ so_far.before i low (omega (arith, other))
        ];
        wrong = λ less. absurd (omega arith);
      }

  pub sought_here : {from end at : ℕ} → FirstWrong Right from at at → at < end → (Right at → ⊥) → Sought Right from end (Some at)
  sought_here so_far inside wrong = (record { low = so_far.low; high = omega arith; before = so_far.before; wrong = λ less. wrong }, inside)

  pub sought_all : {from end at : ℕ} → FirstWrong Right from at at → at ≤ end → end ≤ at → FirstWrong Right from end at
  sought_all so_far most done = record { low = so_far.low; high = most; before = so_far.before; wrong = λ less. absurd (omega arith) }

  -- was one found?
  module _ {from end : ℕ} where
    pub found_some : (found : Option ℕ) → Sought Right from end found → is_some found ≡ true → (at : ℕ) × FirstWrong Right from end at × (at < end)
    found_some (Some at) sought some = (at, sought.0, sought.1)
    found_some None sought some = true_not_false (sym some)

    pub found_none : (found : Option ℕ) → Sought Right from end found → is_some found ≡ false → FirstWrong Right from end end
    found_none (Some at) sought none = true_not_false none
    found_none None sought none = sought

  -- a second search behind the first
  module _ {from middle : ℕ} where
    pub sought_short : {at end : ℕ} → Sought Right from middle (Some at) → middle ≤ end → Sought Right from end (Some at)
    sought_short {at} {end} (first, less) most = (
      record { low = first.low; high = omega arith; before = first.before; wrong = λ inside. first.wrong less },
      omega arith,
    )

    behind : {end then : ℕ} → FirstWrong Right from middle middle → FirstWrong Right middle end then → FirstWrong Right from end then
    behind {end} {then} first later =
        record {
          low = omega (arith, first.low, later.low);
          high = later.high;
          before = λ i low less. elim (dec_lt i middle) [
            | yes below ↦ first.before i low (omega (arith, below))
            | no above ↦ later.before i (omega (arith, above)) less
          ];
          wrong = later.wrong;
        }

    pub sought_then : (end : ℕ) (found : Option ℕ) → FirstWrong Right from middle middle → Sought Right middle end found → Sought Right from end found
    sought_then end (Some at) first later = (behind first later.0, later.1)
    sought_then end None first later = behind first later

-- the first that `find` meets in a range, or none: what its closure says of a number is asked from `from` on
module _ (Right : ℕ → Type 0) {from end : ℕ} (order : from ≤ end) where
  met : (found : Option ℕ)
      → MatchOption found ((k : ℕ) → from ≤ k → k < end → from ≤ k → Right k)
      (λ i. (from ≤ i) × (i < end) × (from ≤ i → Right i → ⊥) × ((k : ℕ) → from ≤ k → k < i → from ≤ k → Right k))
      → Sought Right from end found
  met None all = record { low = order; high = omega arith; before = λ k low less. all k low less low; wrong = λ less. absurd (omega arith) }
  met (Some i) h = (
    record { low = h.0; high = omega (arith, h.1); before = λ k low less. h.3 k low less low; wrong = λ inside. h.2 h.0 },
    h.1,
  )

  pub sought_find : {F : Type 0} {g : Mut F (Bor ℕ × Unit {0}) Bool} {f : F} (u : Range ℕ) (found : Option ℕ)
      → (xs : List ℕ) × (j : F) × YieldsThen nat_range_steps (record { start = from; end = end }) xs found u
      × FoldsTo (λ p x q. CalledAt g p x false q) f xs j × MatchOption found ⊤ (λ x. (h : F) × CalledAt g j x true h)
      → ((k : ℕ) (q : F) → CalledAt g f k true q → from ≤ k → Right k → ⊥) → ((k : ℕ) (q : F) → CalledAt g f k false q → (q ≡ f) × (from ≤ k → Right k))
      → Sought Right from end found
  sought_find u found ran wrong right = met found (first_from_Range _ _ _ _ (λ k. from ≤ k → Right k → ⊥) (λ k. from ≤ k → Right k) ran wrong right)
