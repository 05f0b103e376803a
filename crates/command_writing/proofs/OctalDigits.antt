-- "in octal without leading zeros": the digits of a number write it, none of them is a zero too many, and no fewer digits write it.
use Prim.Native.Nat.{ℕ, ◌+◌, ◌-◌, ◌/◌, ◌%◌, ◌≤◌, ◌<◌}
use mathlib.Core.Path.{◌≡◌, refl}
use mathlib.Core.Bool.{Bool, true, false, cond}
use mathlib.Core.List.{List, [], ◌∷◌}
use native.Mathlib.Omega.{arith}
use borrow.Author.Tests.{ltb-true, ltb-false, eqb-true, eqb-false, leb-true, le-leb, eq-eqb}
use lib.Dec.{ltb, eqb, leb}
use lib.ListN.{length}
use Rattle.answers.proofs.RefusalsTests.{and_both, and_right}
use Rattle.numerals.specs.Digits.{digits, value_of}
use Rattle.command_grammar.specs.LineCharacters.{is_octal}
use Rattle.command_grammar.specs.Grammar.{All, nil, cons, Some}
use Rattle.command_writing.specs.WrittenLine.{octal_digits, written_unit}

-- how many digits a number has
data Octal (number : ℕ) : List ℕ → Type 0 where
  one : number < 8 → Octal number (digits 8 1 number)
  two : 8 ≤ number → number < 64 → Octal number (digits 8 2 number)
  three : 64 ≤ number → Octal number (digits 8 3 number)

octal_case : (number : ℕ) → Octal number (octal_digits number)
unfolding octal_digits
octal_case number = by (ltb number 8) (ltb number 64) refl refl
  where
    by : (few more : Bool) → ltb number 8 ≡ few → ltb number 64 ≡ more
        → Octal number (cond few (digits 8 1 number) (cond more (digits 8 2 number) (digits 8 3 number)))
    by true more is is' = one (ltb-true number 8 is)
    by false true is is' = two (ltb-false number 8 is) (ltb-true number 64 is')
    by false false is is' = three (ltb-false number 64 is')

octal_digit : (x : ℕ) → x < 8 → is_octal (48 + x) ≡ true
octal_digit x small = and_both (le-leb 48 (48 + x) (omega arith)) (le-leb (48 + x) 55 (omega arith))

digit_all : (number : ℕ) {s : List ℕ} → All is_octal s → All is_octal ((48 + number % 8) ∷ s)
digit_all number rest = cons (octal_digit (number % 8) (omega arith)) rest

octal_all : {number : ℕ} {s : List ℕ} → Octal number s → All is_octal s
octal_all {number} (one low) = digit_all number nil
octal_all {number} (two high low) = digit_all (number / 8) (digit_all number nil)
octal_all {number} (three high) = digit_all (number / 8 / 8) (digit_all (number / 8) (digit_all number nil))

octal_value : {number : ℕ} {s : List ℕ} → number ≤ 0o377 → Octal number s → value_of 8 s ≡ number
unfolding value_of
octal_value {number} bound (one low) = omega arith
octal_value {number} bound (two high low) = omega arith
octal_value {number} bound (three high) = omega arith

octal_some : {number : ℕ} {s : List ℕ} → Octal number s → (1 ≤ length s) × (length s ≤ 3)
octal_some (one low) = (omega arith, omega arith)
octal_some (two high low) = (omega arith, omega arith)
octal_some (three high) = (omega arith, omega arith)

-- digits that write the number are at least one for a number below 8, two for one below 64, three for any other
digit_most : (x : ℕ) → is_octal x ≡ true → x - 48 < 8
digit_most x is = let high : x ≤ 55 = leb-true x 55 (and_right (leb 48 x) (leb x 55) is) in omega arith

octal_shortest : {number : ℕ} {s : List ℕ} → Octal number s → (t : List ℕ) → Some is_octal t → value_of 8 t ≡ number → length s ≤ length t
unfolding value_of
octal_shortest o t any is = by o t any.all any.least is
  where
    by : {number : ℕ} {s : List ℕ} → Octal number s → (t : List ℕ) → All is_octal t → 1 ≤ length t → value_of 8 t ≡ number → length s ≤ length t
    by (one low) t all least is = omega arith
    by (two high low) t nil least is = absurd (omega arith)
    by (two high low) t (cons {c = x} p nil) least is = absurd (omega (arith, digit_most x p))
    by (two high low) t (cons p (cons q all)) least is = omega arith
    by (three high) t nil least is = absurd (omega arith)
    by (three high) t (cons {c = x} p nil) least is = absurd (omega (arith, digit_most x p))
    by (three high) t (cons {c = x} p (cons {c = y} q nil)) least is = absurd (omega (arith, digit_most x p, digit_most y q))
    by (three high) t (cons p (cons q (cons r all))) least is = omega arith

octal_leading : {number : ℕ} {s : List ℕ} → number ≤ 0o377 → Octal number s → (rest : List ℕ) → s ≡ 48 ∷ rest → number ≡ 0
octal_leading {number} bound (one low) rest is = let first : 48 + number % 8 ≡ 48 = cc in omega arith
octal_leading {number} bound (two high low) rest is = let first : 48 + number / 8 % 8 ≡ 48 = cc in omega arith
octal_leading {number} bound (three high) rest is = let first : 48 + number / 8 / 8 % 8 ≡ 48 = cc in omega arith

module _ (number : ℕ) where
  -- octal digits, from one to three
  pub octal_digits_law : Some is_octal (octal_digits number)
  octal_digits_law = record { all = octal_all (octal_case number); least = (octal_some (octal_case number)).0 }

  pub octal_few : length (octal_digits number) ≤ 3
  octal_few = (octal_some (octal_case number)).1

  -- no fewer digits write the number
  pub octal_least : (s : List ℕ) → Some is_octal s → value_of 8 s ≡ number → length (octal_digits number) ≤ length s
  octal_least = octal_shortest (octal_case number)

  module _ (bound : number ≤ 0o377) where
    -- they write the number
    pub octal_worth : value_of 8 (octal_digits number) ≡ number
    octal_worth = octal_value bound (octal_case number)

    -- "without leading zeros": the only digits that begin with a zero are those of 0
    pub octal_unled : (rest : List ℕ) → octal_digits number ≡ 48 ∷ rest → number ≡ 0
    octal_unled = octal_leading bound (octal_case number)

-- the digits of 0 are one zero
pub octal_zero : octal_digits 0 ≡ 48 ∷ []
unfolding octal_digits
octal_zero = refl

-- "unit shown only if not 0"
data Shown (unit : ℕ) : List ℕ → Type 0 where
  unshown : unit ≡ 0 → Shown unit []
  shown : (unit ≡ 0 → ⊥) → Shown unit (octal_digits unit)

unit_case : (unit : ℕ) → Shown unit (written_unit unit)
unfolding written_unit
unit_case unit = by (eqb unit 0) refl
  where
    by : (zero : Bool) → eqb unit 0 ≡ zero → Shown unit (cond zero [] (octal_digits unit))
    by true is = unshown (eqb-true unit 0 is)
    by false is = shown (eqb-false unit 0 is)

unit_all : {unit : ℕ} {s : List ℕ} → Shown unit s → All is_octal s
unit_all (unshown is) = nil
unit_all {unit} (shown other) = (octal_digits_law unit).all

unit_value : {unit : ℕ} {s : List ℕ} → unit ≤ 0o377 → Shown unit s → value_of 8 s ≡ unit
unfolding value_of
unit_value bound (unshown is) = omega arith
unit_value {unit} bound (shown other) = octal_worth unit bound

unit_shortest : {unit : ℕ} {s : List ℕ} → Shown unit s → (t : List ℕ) → All is_octal t → value_of 8 t ≡ unit → length s ≤ length t
unfolding value_of
unit_shortest (unshown is) t all worth = omega arith
unit_shortest (shown other) [] all worth = absurd (other (omega arith))
unit_shortest {unit} (shown other) (x ∷ t) all worth = octal_least unit (x ∷ t) (record { all = all; least = omega arith }) worth

module _ (unit : ℕ) where
  pub unit_digits : All is_octal (written_unit unit)
  unit_digits = unit_all (unit_case unit)

  pub unit_least : (s : List ℕ) → All is_octal s → value_of 8 s ≡ unit → length (written_unit unit) ≤ length s
  unit_least = unit_shortest (unit_case unit)

  pub unit_worth : unit ≤ 0o377 → value_of 8 (written_unit unit) ≡ unit
  unit_worth bound = unit_value bound (unit_case unit)

  pub unit_hidden : unit ≡ 0 → written_unit unit ≡ []
  unfolding written_unit
  unit_hidden is = rw (eq-eqb unit 0 is)
