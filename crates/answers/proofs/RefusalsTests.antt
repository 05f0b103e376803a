-- The tests that rows give: joined by `&&`, taken apart and put together, rung by rung; what an option tells that a test guards.
use Prim.Native.Nat.{ℕ, suc, ◌-◌, ◌<◌}
use mathlib.Core.Path.{◌≡◌, refl}
use mathlib.Core.Logic.{◌⊎◌, inl, inr}
use mathlib.Core.Bool.{Bool, true, false, cond, ◌&&◌}
use mathlib.Core.Option.{none, some}
use native.Mathlib.Omega.{arith}

pub and_left : (a b : Bool) → (a && b) ≡ true → a ≡ true
and_left true b h = refl
and_left false b h = h

pub and_right : (a b : Bool) → (a && b) ≡ true → b ≡ true
and_right true b h = h
and_right false b h = cc

pub and_both : {a b : Bool} → a ≡ true → b ≡ true → (a && b) ≡ true
and_both {a} {b} p q = cc

-- a ladder of early returns, rung by rung: the first test passes and the rest decides, or it fails
pub go_on : {a b r : Bool} → a ≡ true → r ≡ b → r ≡ (a && b)
go_on {a} {b} {r} p q = cc

pub stop : (a b : Bool) → a ≡ false → false ≡ (a && b)
stop a b p = cc

-- a count that is not 0
pub down : (k : ℕ) → 0 < k → k ≡ suc (k - 1)
down k h = omega arith

pub true_not_false : {A : Type 0} → true ≡ false → A
true_not_false h = let z : ◌≡◌ {A = ℕ} 0 1 = cc in absurd (omega arith)

pub first_fails : {a : Bool} (b : Bool) → a ≡ false → (a && b) ≡ false
first_fails b fails = rw fails

pub second_fails : (a : Bool) {b : Bool} → b ≡ false → (a && b) ≡ false
second_fails true fails = fails
second_fails false fails = refl

pub parts : (a b : Bool) → (a && b) ≡ true → (a ≡ true) × (b ≡ true)
parts a b holds = (and_left a b holds, and_right a b holds)

pub either_fails : (a b : Bool) → (a && b) ≡ false → (a ≡ false) ⊎ (b ≡ false)
either_fails true b fails = inr fails
either_fails false b fails = inl refl

module _ {A : Type 0} where
  pub keep : {test : Bool} (x : A) → test ≡ true → cond test (some x) none ≡ some x
  keep x holds = rw holds

  pub kept : (test : Bool) (x : A) {y : A} → cond test (some x) none ≡ some y → (test ≡ true) × (x ≡ y)
  kept true x is = (refl, cc)
  kept false x is = (cc, cc)

  pub discard : {test : Bool} (x : A) → test ≡ false → cond test (some x) none ≡ none
  discard x fails = rw fails

  pub discarded : (test : Bool) (x : A) → cond test (some x) none ≡ none → test ≡ false
  discarded true x is = cc
  discarded false x is = refl
