-- The tests of names and extensions in codes: what each comes to, as the code takes it.
use Prim.Native.Nat.{ℕ, ◌*◌, ◌≤◌}
use mathlib.Core.Path.{◌≡◌, refl, sym, ◌∙◌}
use mathlib.Core.Logic.{◌⊎◌, inl, inr}
use mathlib.Core.Bool.{Bool, true, false, not, cond, ◌&&◌, ◌||◌, and-true}
use mathlib.Core.List.{List, [], ◌∷◌}
use mathlib.Core.Option.{Option, none, some}
use native.Mathlib.Omega.{arith}
use native.Mathlib.Decide.{ℕ_discrete}
use lib.Dec.{eqb}
use borrow.Author.Tests.{eqb-true, eq-eqb, ne_eqb}
use Rattle.radix.specs.Characters.{character_of}
use Rattle.radix.specs.Packing.{three_if, first_code, second_code, third_code, characters_of, upper_end}
use Rattle.radix.specs.Names.{is_letter_or_digit, blank, every}
use Rattle.radix.specs.NamesTest.{is_letter_or_digit_in, then_blanks, name_test, extension_test, legal_name, legal_extension}
use Rattle.radix.proofs.Characters.{Spelled, spelled, code_blank, character_blank, character_none}
use Rattle.radix.proofs.Packing.{characters_end}

-- is there a blank?
abbrev pub is_blank_in : Option ℕ → Bool
is_blank_in none = false
is_blank_in (some x) = eqb blank x

-- Is the character of a code a letter or a digit, or a blank?
pub zero_not_in_name : (c : ℕ) → c ≡ 0 → is_letter_or_digit_in (character_of c) ≡ false
zero_not_in_name c is = rw (character_blank c is)

pub blank_code : (c : ℕ) → is_blank_in (character_of c) ≡ eqb c 0
blank_code c = at (ℕ_discrete c 0) (spelled c)
  where
    at : Dec (c ≡ 0) → Spelled c ⊎ ((c ≡ 29) ⊎ (40 ≤ c)) → is_blank_in (character_of c) ≡ eqb c 0
    at (yes is) k = rw (character_blank c is, eq-eqb c 0 is)
    at (no not_zero) (inl k) =
        rw (k.is, ne_eqb c 0 not_zero)
        (ne_eqb 32 k.character (λ is. not_zero (let same : some 0 ≡ some c = sym (code_blank k.character (sym is)) ∙ k.back in cc)))
    at (no not_zero) (inr out) = rw (character_none c out, ne_eqb c 0 not_zero)

-- a letter or digit is no blank
pub named_not_blank : (x : ℕ) → is_letter_or_digit x ≡ true → eqb blank x ≡ false
named_not_blank x is = ne_eqb blank x (λ same. let h : false ≡ true = rw (← same) at is in let z : ◌≡◌ {A = ℕ} 0 1 = cc in omega arith)

-- An extension's test, character by character.
pub extension_by_three : (p q r : Option ℕ) → extension_test (three_if p q r)
    ≡ cond (is_letter_or_digit_in p) (cond (is_letter_or_digit_in q) (is_letter_or_digit_in r || is_blank_in r) (is_blank_in q && is_blank_in r)) (is_blank_in p && (is_blank_in q && is_blank_in r))
extension_by_three none q r = refl
extension_by_three (some x) none r = by (is_letter_or_digit x) (eqb blank x)
  where
    by : (a f : Bool) → false ≡ cond a false (f && false)
    by true f = refl
    by false true = refl
    by false false = refl
extension_by_three (some x) (some y) none = by (is_letter_or_digit x) (is_letter_or_digit y) (eqb blank x) (eqb blank y)
  where
    by : (a b f e : Bool) → false ≡ cond a (cond b false (e && false)) (f && (e && false))
    by true true f e = refl
    by true false f true = refl
    by true false f false = refl
    by false b true true = refl
    by false b true false = refl
    by false b false e = refl
extension_by_three (some x) (some y) (some z) = by (is_letter_or_digit x) (is_letter_or_digit y) (is_letter_or_digit z) (eqb blank x) (eqb blank y) (eqb blank z)
  where
    by : (a b c f e d : Bool) → cond a (cond b (cond c true (d && true)) (e && (d && true))) (f && (e && (d && true))) ≡ cond a (cond b (c || d) (e && d)) (f && (e && d))
    by true true true f e d = refl
    by true true false f e d = and-true d
    by true false c f e d = rw (and-true d)
    by false b c f e d = rw (and-true d)

-- A name's test by its two words.
abbrev blanks_in : Option (List ℕ) → Bool
blanks_in none = false
blanks_in (some s) = every (eqb blank) s

name_by_two : (p q r : Option ℕ) (o : Option (List ℕ)) → name_test (three_if p q r) o
    ≡ (not (is_blank_in p) && (extension_test (three_if p q r) && cond (is_blank_in r) (blanks_in o) (extension_test o)))
name_by_two none q r o = refl
name_by_two (some x) none r o = by (eqb blank x)
  where
    by : (f : Bool) → false ≡ (not f && false)
    by true = refl
    by false = refl
name_by_two (some x) (some y) none o = by (eqb blank x)
  where
    by : (f : Bool) → false ≡ (not f && false)
    by true = refl
    by false = refl
name_by_two (some x) (some y) (some z) none = by (eqb blank x) (then_blanks (x ∷ (y ∷ (z ∷ [])))) (eqb blank z)
  where
    by : (f t d : Bool) → false ≡ (not f && (t && cond d false false))
    by true t d = refl
    by false false d = refl
    by false true true = refl
    by false true false = refl
name_by_two (some x) (some y) (some z) (some s) =
    by (eqb blank x) (is_letter_or_digit x) (is_letter_or_digit y) (is_letter_or_digit z) (eqb blank z) (eqb blank y) (then_blanks s) (every (eqb blank) s) (named_not_blank z)
  where
    by : (f a b c d e t v : Bool) → (c ≡ true → d ≡ false)
        → (not f && cond a (cond b (cond c t (d && v)) (e && (d && v))) (f && (e && (d && v))))
        ≡ (not f && (cond a (cond b (cond c true (d && true)) (e && (d && true))) (f && (e && (d && true))) && cond d v t))
    by true a b c d e t v apart = refl
    by false false b c d e t v apart = refl
    by false true true true d e t v apart = rw (apart refl)
    by false true true false true e t v apart = refl
    by false true true false false e t v apart = refl
    by false true false c true true t v apart = refl
    by false true false c true false t v apart = refl
    by false true false c false true t v apart = refl
    by false true false c false false t v apart = refl

blanks_by_three : (p q r : Option ℕ) → blanks_in (three_if p q r) ≡ (is_blank_in p && (is_blank_in q && is_blank_in r))
blanks_by_three none q r = refl
blanks_by_three (some x) none r = by (eqb blank x)
  where
    by : (f : Bool) → false ≡ (f && false)
    by true = refl
    by false = refl
blanks_by_three (some x) (some y) none = by (eqb blank x) (eqb blank y)
  where
    by : (f e : Bool) → false ≡ (f && (e && false))
    by true true = refl
    by true false = refl
    by false e = refl
blanks_by_three (some x) (some y) (some z) = rw (and-true (eqb blank z))

-- "A word of three blanks is 0."
zero_codes : (w : ℕ) → (eqb (first_code w) 0 && (eqb (second_code w) 0 && eqb (third_code w) 0)) ≡ eqb w 0
zero_codes w = by (ℕ_discrete w 0)
  where
    at : (b c : Bool) → eqb (second_code w) 0 ≡ b → eqb (third_code w) 0 ≡ c → (a : Bool) → eqb (first_code w) 0 ≡ a → (w ≡ 0 → ⊥) → (a && (b && c)) ≡ false
    at true true p q true o never = absurd (never (let x = eqb-true (first_code w) 0 o in let y = eqb-true (second_code w) 0 p in let z = eqb-true (third_code w) 0 q in omega arith))
    at true false p q true o never = refl
    at false c p q true o never = refl
    at b c p q false o never = refl

    by : Dec (w ≡ 0) → (eqb (first_code w) 0 && (eqb (second_code w) 0 && eqb (third_code w) 0)) ≡ eqb w 0
    by (yes is) = rw is
    by (no never) = at (eqb (second_code w) 0) (eqb (third_code w) 0) refl refl (eqb (first_code w) 0) refl never ∙ sym (ne_eqb w 0 never)

blanks_word : (w : ℕ) → blanks_in (characters_of w) ≡ eqb w 0
unfolding characters_of
blanks_word w =
    blanks_by_three (character_of (first_code w)) (character_of (second_code w)) (character_of (third_code w))
    ∙ (rw (blank_code (first_code w), blank_code (second_code w), blank_code (third_code w)) (zero_codes w))

name_by_words : (first : ℕ) (o : Option (List ℕ)) → name_test (characters_of first) o
    ≡ (not (is_blank_in (character_of (first_code first))) && (extension_test (characters_of first) && cond (is_blank_in (character_of (third_code first))) (blanks_in o) (extension_test o)))
unfolding characters_of
name_by_words first o = name_by_two (character_of (first_code first)) (character_of (second_code first)) (character_of (third_code first)) o

-- The tests of a name and of an extension as the code takes them.
pub name_test_law : (first second : ℕ) → legal_name first second
    ≡ (not (eqb (first_code first) 0) && (legal_extension first && cond (eqb (third_code first) 0) (eqb second 0) (legal_extension second)))
unfolding legal_name legal_extension
name_test_law first second = rw (← blank_code (first_code first), ← blank_code (third_code first), ← blanks_word second) (name_by_words first (characters_of second))

-- An extension, by which of its codes are those of letters or digits; a, b and c are what was read of them.
module _ (w : ℕ) {a b c : ℕ} (first : a ≡ first_code w) (second : b ≡ second_code w) (third : c ≡ third_code w) where
  by_codes : legal_extension w
      ≡ cond (is_letter_or_digit_in (character_of a)) (cond (is_letter_or_digit_in (character_of b)) (is_letter_or_digit_in (character_of c) || eqb c 0) (eqb b 0 && eqb c 0))
      (eqb a 0 && (eqb b 0 && eqb c 0))
  unfolding legal_extension characters_of
  by_codes = rw (first, second, third)
      (extension_by_three (character_of (first_code w)) (character_of (second_code w)) (character_of (third_code w))
      ∙ rw (blank_code (first_code w), blank_code (second_code w), blank_code (third_code w)))

  pub none_named : is_letter_or_digit_in (character_of a) ≡ false → eqb w 0 ≡ legal_extension w
  none_named p = sym (by_codes ∙ rw (p, first, second, third) (zero_codes w))

  pub one_named : is_letter_or_digit_in (character_of a) ≡ true → is_letter_or_digit_in (character_of b) ≡ false → eqb w (1600 * a) ≡ legal_extension w
  one_named p q = sym (by_codes ∙ rw (p, q) (rest_codes (ℕ_discrete b 0) (ℕ_discrete c 0)))
    where
      rest_codes : Dec (b ≡ 0) → Dec (c ≡ 0) → (eqb b 0 && eqb c 0) ≡ eqb w (1600 * a)
      rest_codes (yes x) (yes y) = rw (eq-eqb b 0 x, eq-eqb c 0 y) (sym (eq-eqb w (1600 * a) (omega (arith, first, second, third))))
      rest_codes (yes x) (no y) = rw (eq-eqb b 0 x, ne_eqb c 0 y) (sym (ne_eqb w (1600 * a) (λ is. y (omega (arith, first, second, third)))))
      rest_codes (no x) y = rw (ne_eqb b 0 x) (sym (ne_eqb w (1600 * a) (λ is. x (omega (arith, first, second, third)))))

  module _ (p : is_letter_or_digit_in (character_of a) ≡ true) (q : is_letter_or_digit_in (character_of b) ≡ true) where
    pub three_named : is_letter_or_digit_in (character_of c) ≡ true → true ≡ legal_extension w
    three_named r = sym (by_codes ∙ rw (p, q, r))

    pub two_named : is_letter_or_digit_in (character_of c) ≡ false → eqb c 0 ≡ legal_extension w
    two_named r = sym (by_codes ∙ rw (p, q, r))

pub extension_end : (w : ℕ) → upper_end ≤ w → false ≡ legal_extension w
unfolding legal_extension
extension_end w high = rw (characters_end w high)

-- a name, by its first word
module _ (first second : ℕ) where
  pub name_blank : first_code first ≡ 0 → false ≡ legal_name first second
  name_blank is = rw (name_test_law first second, eq-eqb (first_code first) 0 is)

  pub name_other : (first_code first ≡ 0 → ⊥) → legal_extension first ≡ false → false ≡ legal_name first second
  name_other never p = rw (name_test_law first second, ne_eqb (first_code first) 0 never, p)

  pub name_short : (first_code first ≡ 0 → ⊥) → legal_extension first ≡ true → third_code first ≡ 0 → eqb second 0 ≡ legal_name first second
  name_short never p is = rw (name_test_law first second, ne_eqb (first_code first) 0 never, p, eq-eqb (third_code first) 0 is)

  pub name_long : (first_code first ≡ 0 → ⊥) → legal_extension first ≡ true → (third_code first ≡ 0 → ⊥) → legal_extension second ≡ legal_name first second
  name_long never p longer = rw (name_test_law first second, ne_eqb (first_code first) 0 never, p, ne_eqb (third_code first) 0 longer)
