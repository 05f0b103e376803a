-- The laws of rows: which code is given, of rows behind others too, and what there is with a code.
use Prim.Native.Nat.{ℕ}
use mathlib.Core.Path.{◌≡◌, refl, sym}
use mathlib.Core.Bool.{Bool, true, false, cond}
use mathlib.Core.List.{List, [], ◌∷◌, ◌++◌}
use native.Mathlib.Omega.{arith}
use lib.Dec.{eqb}
use borrow.Author.Tests.{eqb-false, ne_eqb}
use Rattle.answers.specs.Refusals.{Row, row, first_of, on_success}

-- the first row holds: its code
pub refuse : {given : Bool} {code : ℕ} (rows : List Row) → given ≡ true → first_of (row given code ∷ rows) ≡ code
unfolding first_of
refuse rows holds = rw holds

-- it does not: the rows behind it decide
pub pass : {given : Bool} (code : ℕ) (rows : List Row) → given ≡ false → first_of (row given code ∷ rows) ≡ first_of rows
unfolding first_of
pass code rows fails = rw fails

-- no row is left: success
pub clear : first_of [] ≡ 0
unfolding first_of
clear = refl

-- no row is given: the first is not, nor is any behind it
pub none_given : (given : Bool) (code : ℕ) (rows : List Row) → (code ≡ 0 → ⊥) → first_of (row given code ∷ rows) ≡ 0 → (given ≡ false) × (first_of rows ≡ 0)
unfolding first_of
none_given true code rows never is = absurd (never is)
none_given false code rows never is = (refl, is)

-- no code of a row is 0
abbrev pub coded : List Row → Bool
coded [] = true
coded (r ∷ rows) = cond (eqb r.code 0) false (coded rows)

-- rows behind others decide exactly where none of the others is given
module _ (behind : List Row) where
  pub behind_refused : (rows : List Row) {code : ℕ} → first_of rows ≡ code → (code ≡ 0 → ⊥) → first_of (rows ++ behind) ≡ code
  unfolding first_of
  behind_refused [] is never = absurd (never (sym is))
  behind_refused (r ∷ rows) {code} is never = by r.given is (λ (later : first_of rows ≡ code). behind_refused rows later never)
    where
      by : (given : Bool) → cond given r.code (first_of rows) ≡ code → (first_of rows ≡ code → first_of (rows ++ behind) ≡ code)
          → cond given r.code (first_of (rows ++ behind)) ≡ code
      by true is later = is
      by false is later = later is

  pub behind_clear : (rows : List Row) → coded rows ≡ true → first_of rows ≡ 0 → first_of (rows ++ behind) ≡ first_of behind
  unfolding first_of
  behind_clear [] codes clear = refl
  behind_clear (r ∷ rows) codes clear = by r.given (eqb r.code 0) refl codes clear (behind_clear rows)
    where
      by : (given zero : Bool) → eqb r.code 0 ≡ zero → cond zero false (coded rows) ≡ true → cond given r.code (first_of rows) ≡ 0
          → (coded rows ≡ true → first_of rows ≡ 0 → first_of (rows ++ behind) ≡ first_of behind)
          → cond given r.code (first_of (rows ++ behind)) ≡ first_of behind
      by given true is codes clear later = let z : ◌≡◌ {A = ℕ} 0 1 = cc in absurd (omega arith)
      by true false is codes clear later = absurd (eqb-false r.code 0 is clear)
      by false false is codes clear later = later codes clear

-- where no row of several is given, none of the first of them is
pub first_front : (rows more : List Row) → first_of (rows ++ more) ≡ 0 → first_of rows ≡ 0
unfolding first_of
first_front [] more is = refl
first_front (r ∷ rows) more is = by r.given (first_front rows more) is
  where
    by : (given : Bool) → (first_of (rows ++ more) ≡ 0 → first_of rows ≡ 0) → cond given r.code (first_of (rows ++ more)) ≡ 0 → cond given r.code (first_of rows) ≡ 0
    by true later is = is
    by false later is = later is

-- what there is with a code
pub success_is : {A : Type 0} {code : ℕ} (success refusal : A) → code ≡ 0 → on_success code success refusal ≡ success
unfolding on_success
success_is success refusal is = rw is

pub refusal_is : {A : Type 0} {code : ℕ} (success refusal : A) → (code ≡ 0 → ⊥) → on_success code success refusal ≡ refusal
unfolding on_success
refusal_is {A} {code} success refusal never = rw (ne_eqb code 0 never)
