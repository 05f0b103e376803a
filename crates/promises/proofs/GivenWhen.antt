-- A table gives one code; rows of tests give it exactly where each test decides its proposition.
use Prim.Native.Nat.{ℕ, ◌<◌}
use mathlib.Core.Path.{◌≡◌, refl, sym, subst, ◌∙◌}
use mathlib.Core.Logic.{◌↔◌, ◌⊎◌, inl, inr}
use mathlib.Core.Bool.{Bool, true, false, ◌&&◌}
use mathlib.Core.List.{List, [], ◌∷◌, ◌++◌}
use native.Mathlib.Omega.{arith}
use lib.Dec.{leb, ltb}
use lib.ListN.{length}
use borrow.Author.Tests.{ltb-true}
use Rattle.answers.specs.Refusals.{Row, row, first_of, table_order, place_in, in_order}
use Rattle.answers.proofs.RefusalsTests.{true_not_false, and_left, and_right}
use Rattle.promises.specs.GivenWhen.{Case, ◌when◌, GivesCode, success, here, behind, code_rows, InTableOrder}

-- what is given has one code
gives_one : (cases : List Case) (a b : ℕ) → GivesCode cases a → GivesCode cases b → a ≡ b
gives_one [] a b success success = refl
gives_one (c ∷ cases) a b (here holds) (here again) = refl
gives_one (c ∷ cases) a b (here holds) (behind never x) = absurd (never holds)
gives_one (c ∷ cases) a b (behind never x) (here holds) = absurd (never holds)
gives_one (c ∷ cases) a b (behind never x) (behind again y) = gives_one cases a b x y

-- the code given is this one exactly in its case
pub exactly : (cases : List Case) {given : ℕ} → GivesCode cases given → (code : ℕ) → given ≡ code ↔ GivesCode cases code
exactly cases {given} has code = (λ is. subst (GivesCode cases) is has, λ other. gives_one cases given code has other)

-- a test that fails denies what it decides
pub fails : {A : Type 0} (b : Bool) → (b ≡ true ↔ A) → b ≡ false → A → ⊥
fails b iff is a = true_not_false (sym (iff.1 a) ∙ is)

-- what holds is not denied
pub denied : {A : Type 0} → A → (A → ⊥) → ⊥
denied holds never = never holds

-- a row whose test decides its proposition
pub rung : (b : Bool) {When : Type 0} {cases : List Case} (code : ℕ) (rows : List Row) → b ≡ true ↔ When → (b ≡ false → GivesCode cases (first_of rows))
    → GivesCode (code when When ∷ cases) (first_of (row b code ∷ rows))
unfolding first_of
rung true code rows iff rest = here (iff.0 refl)
rung false code rows iff rest = behind (fails false iff refl) (rest refl)

-- a row that is never given
pub passed : (code : ℕ) (rows : List Row) {cases : List Case} → GivesCode cases (first_of rows) → GivesCode cases (first_of (row false code ∷ rows))
unfolding first_of
passed code rows given = given

-- no row is left
pub clear : GivesCode [] (first_of [])
unfolding first_of
clear = success

-- a code that stands in the paper's table
abbrev Known : ℕ → Type 0
Known code = place_in table_order code < length table_order

-- the first of rows in order, and the rows behind it
module _ (c : Case) (cases : List Case) (place : ℕ) (ordered : in_order table_order place (code_rows (c ∷ cases)) ≡ true) where
  behind_first : ltb (place_in table_order c.code) (length table_order) && in_order table_order (place_in table_order c.code) (code_rows cases) ≡ true
  behind_first = and_right (leb place (place_in table_order c.code)) _ ordered

  first_known : Known c.code
  first_known = ltb-true _ _ (and_left (ltb (place_in table_order c.code) (length table_order)) _ behind_first)

  rest_ordered : in_order table_order (place_in table_order c.code) (code_rows cases) ≡ true
  rest_ordered = and_right (ltb (place_in table_order c.code) (length table_order)) _ behind_first

  first_not_zero : c.code ≡ 0 → ⊥
  first_not_zero zero = let h : Known 0 = subst Known zero first_known in omega (arith, h)

-- a code that a table gives is 0 or stands in the paper's
known_from : (cases : List Case) (place code : ℕ) → in_order table_order place (code_rows cases) ≡ true → GivesCode cases code → (code ≡ 0) ⊎ Known code
known_from [] place code ordered success = inl refl
known_from (c ∷ cases) place code ordered (here holds) = inr (first_known c cases place ordered)
known_from (c ∷ cases) place code ordered (behind never rest) =
    known_from cases (place_in table_order c.code) code (rest_ordered c cases place ordered) rest

pub gives_known : (cases : List Case) {code : ℕ} → InTableOrder cases → GivesCode cases code → (code ≡ 0) ⊎ (place_in table_order code < length table_order)
gives_known cases {code} ordered given = known_from cases 0 code ordered given

-- with nothing against it in the rows before the last, the last one's code is given exactly if the last holds, and else success
module _ (When : Type 0) (last : ℕ) where
  last_from : (front : List Case) (place given none : ℕ) → in_order table_order place (code_rows (front ++ last when When ∷ [])) ≡ true
      → GivesCode (front ++ last when When ∷ []) given → GivesCode front none → none ≡ 0 → (given ≡ last ↔ When) × ((When → ⊥) → given ≡ 0)
  last_from [] place given none ordered (here holds) success zero = ((λ is. holds, λ again. refl), λ never. absurd (never holds))
  last_from [] place given none ordered (behind never success) success zero =
      ((λ is. absurd (first_not_zero (last when When) [] place ordered (sym is)), λ holds. absurd (never holds)), λ again. refl)
  last_from (c ∷ front) place given none ordered whole (here holds) zero =
      absurd (first_not_zero c (front ++ last when When ∷ []) place ordered zero)
  last_from (c ∷ front) place given none ordered (here holds) (behind never rest) zero = absurd (never holds)
  last_from (c ∷ front) place given none ordered (behind again whole) (behind never rest) zero =
      last_from front (place_in table_order c.code) given none (rest_ordered c (front ++ last when When ∷ []) place ordered) whole rest zero

  pub last_given : (front : List Case) {given : ℕ} → InTableOrder (front ++ last when When ∷ []) → GivesCode (front ++ last when When ∷ []) given → GivesCode front 0
      → (given ≡ last ↔ When) × ((When → ⊥) → given ≡ 0)
  last_given front {given} ordered whole clear = last_from front 0 given 0 ordered whole clear refl
