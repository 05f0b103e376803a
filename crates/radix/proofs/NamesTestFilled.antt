-- Words of three letters or digits: the codes of these, and pairs of them, as bits of a number, and names and extensions that such words make.
use Prim.Native.Nat.{ℕ, suc, zero, ◌+◌, ◌-◌, ◌*◌, ◌/◌, ◌%◌, ◌<◌, min}
use mathlib.Core.Path.{◌≡◌, refl, sym, ap, subst, ◌∙◌}
use mathlib.Core.Bool.{Bool, true, false, cond, not, ◌&&◌, ◌||◌}
use mathlib.Core.List.{List, [], ◌∷◌}
use native.Mathlib.Omega.{arith}
use native.Mathlib.Decide.{ℕ_discrete}
use lib.Dec.{eqb}
use lib.ListN.{length, get_or}
use Rattle.answers.proofs.RefusalsTests.{and_left, and_right, true_not_false}
use Rattle.radix.specs.Characters.{character_of}
use Rattle.radix.specs.Packing.{first_code, second_code, third_code}
use Rattle.radix.specs.NamesTest.{is_letter_or_digit_in, pair_named, pair_end, bit, filled, legal_name, legal_extension}
use Rattle.radix.proofs.NamesTest.{zero_not_in_name, one_named, two_named, three_named, name_long}

abbrev pub alike : Bool → Bool → Bool
alike a b = cond a b (not b)

alike_same : (a b : Bool) → alike a b ≡ true → a ≡ b
alike_same true b is = sym is
alike_same false true is = is
alike_same false false is = refl

-- the bits of a number below `many` are what a test says of each
abbrev pub bits_are : (ℕ → Bool) → ℕ → ℕ → Bool
bits_are test number zero = true
bits_are test number (suc many) = alike (bit number many) (test many) && bits_are test number many

pub bit_at : (test : ℕ → Bool) (number many i : ℕ) → bits_are test number many ≡ true → i < many → bit number i ≡ test i
bit_at test number zero i are low = absurd (omega arith)
bit_at test number (suc many) i are low =
    elim (ℕ_discrete many i) [
      | yes is ↦ subst (λ (n : ℕ). bit number n ≡ test n) is (alike_same _ _ (and_left _ (bits_are test number many) are))
      | no other ↦ bit_at test number many i (and_right (alike (bit number many) (test many)) _ are) (omega (arith, other))
    ]

-- the tests of a code: is its character a letter or a digit; or that, or a blank
abbrev pub named_code : ℕ → Bool
named_code code = is_letter_or_digit_in (character_of code)

abbrev pub ending_code : ℕ → Bool
ending_code code = named_code code || eqb code 0

-- the bits of a table are all pairs of a word, 64 to a number, from those of a part on: the last part has fewer
abbrev pub pair_of : ℕ → ℕ → Bool
pair_of part i = pair_named (64 * part + i)

abbrev parts_are : ℕ → List ℕ → Bool
parts_are part [] = true
parts_are part (number ∷ table) = bits_are (pair_of part) number (min 64 (pair_end - 64 * part)) && parts_are (suc part) table

part_at : (part : ℕ) (table : List ℕ) (k i : ℕ) → parts_are part table ≡ true → k < length table → i < 64 → 64 * (part + k) + i < pair_end
    → bit (get_or table k 0) i ≡ pair_named (64 * (part + k) + i)
part_at part [] k i are low inside within = absurd (omega arith)
part_at part (number ∷ table) zero i are low inside within =
    let here : part + zero ≡ part = omega arith in
    rw here (bit_at (pair_of part) number (min 64 (pair_end - 64 * part)) i (and_left _ (parts_are (suc part) table) are) (omega (arith, within)))
part_at part (number ∷ table) (suc k) i are low inside within =
    let here : part + suc k ≡ suc part + k = omega arith in
    rw here (part_at (suc part) table k i (and_right (bits_are (pair_of part) number (min 64 (pair_end - 64 * part))) _ are) (omega arith) inside (omega (arith, within)))

-- a pair in a table of them
pub pair_in : (table : List ℕ) (pair : ℕ) → pair < pair_end → length table ≡ 26 → parts_are 0 table ≡ true → bit (get_or table (pair / 64) 0) (pair % 64) ≡ pair_named pair
pair_in table pair low long are =
    let whole : 64 * (0 + pair / 64) + pair % 64 ≡ pair = omega arith in
    part_at 0 table (pair / 64) (pair % 64) are (omega (arith, low)) (omega arith) (omega (arith, low)) ∙ ap pair_named whole

-- a word, by its pair and its third code
module _ (w : ℕ) {pair c : ℕ} (first : pair ≡ w / 40) (third : c ≡ third_code w) where
  codes : (pair / 40 ≡ first_code w) × (pair % 40 ≡ second_code w)
  codes = (omega (arith, first), omega (arith, first))

  pair_codes : pair_named pair ≡ (is_letter_or_digit_in (character_of (first_code w)) && is_letter_or_digit_in (character_of (second_code w)))
  unfolding pair_named
  pair_codes = rw (codes.0, codes.1)

  pub filled_not : pair_named pair ≡ false → false ≡ filled w
  unfolding filled
  filled_not p = by (is_letter_or_digit_in (character_of (first_code w))) (is_letter_or_digit_in (character_of (second_code w))) _ (sym pair_codes ∙ p)
    where
      by : (a b d : Bool) → (a && b) ≡ false → false ≡ (a && (b && d))
      by true true d is = absurd (true_not_false is)
      by true false d is = refl
      by false b d is = refl

  module _ (p : pair_named pair ≡ true) where
    pub filled_pair : is_letter_or_digit_in (character_of c) ≡ filled w
    unfolding filled
    filled_pair =
        let both = sym pair_codes ∙ p in
        rw (and_left (is_letter_or_digit_in (character_of (first_code w))) _ both, and_right (is_letter_or_digit_in (character_of (first_code w))) _ both, third)

    pub extension_pair : (is_letter_or_digit_in (character_of c) || eqb c 0) ≡ legal_extension w
    extension_pair =
        let both = sym pair_codes ∙ p in
        let named = and_left (is_letter_or_digit_in (character_of (first_code w))) _ both in
        let named₂ = and_right (is_letter_or_digit_in (character_of (first_code w))) _ both in
        by (is_letter_or_digit_in (character_of c)) (three_named w refl refl third named named₂) (two_named w refl refl third named named₂)
      where
        by : (d : Bool) → (d ≡ true → true ≡ legal_extension w) → (d ≡ false → eqb c 0 ≡ legal_extension w) → (d || eqb c 0) ≡ legal_extension w
        by true three two = three refl
        by false three two = two refl

  pub extension_one : {a : ℕ} → pair_named pair ≡ false → a ≡ first_code w → is_letter_or_digit_in (character_of a) ≡ true → eqb w (1600 * a) ≡ legal_extension w
  extension_one p is named =
      one_named w is refl refl named
      (by (is_letter_or_digit_in (character_of (first_code w))) _ (ap (λ (n : ℕ). is_letter_or_digit_in (character_of n)) (sym is) ∙ named) (sym pair_codes ∙ p))
    where
      by : (a b : Bool) → a ≡ true → (a && b) ≡ false → b ≡ false
      by true b is none = none
      by false b is none = absurd (true_not_false (sym is))

-- such a word is an extension,
module _ (w : ℕ) (is : filled w ≡ true) where
  named : (is_letter_or_digit_in (character_of (first_code w)) ≡ true)
      × (is_letter_or_digit_in (character_of (second_code w)) ≡ true) × (is_letter_or_digit_in (character_of (third_code w)) ≡ true)
  unfolding filled
  named =
      let rest = and_right (is_letter_or_digit_in (character_of (first_code w))) _ is in
      let second = is_letter_or_digit_in (character_of (second_code w)) in
      (and_left (is_letter_or_digit_in (character_of (first_code w))) _ is, and_left second _ rest, and_right second _ rest)

  filled_extension : legal_extension w ≡ true
  filled_extension = sym (three_named w refl refl refl named.0 named.1 named.2)

-- and with another that is, a name
pub filled_name : (first second : ℕ) → filled first ≡ true → legal_extension second ≡ legal_name first second
filled_name first second is =
    name_long first second (never (first_code first) (named first is).0) (filled_extension first is) (never (third_code first) (named first is).2)
  where
    never : (code : ℕ) → is_letter_or_digit_in (character_of code) ≡ true → code ≡ 0 → ⊥
    never code holds none = true_not_false (sym holds ∙ zero_not_in_name code none)
