-- Means: the tests of names and extensions that requests compute; `name_iff` and `extension_iff` say that each is true exactly if they are legal.
use Rattle.std.specs.Prelude.{ℕ, ◌+◌, ◌*◌, ◌/◌, ◌%◌, ◌^◌, ◌<◌, ◌≡◌, Bool, true, false, not, cond, ◌&&◌, List, [], ◌∷◌, ◌++◌, eqb}
use Rattle.std.proofs.Math.Option.{Option, none, some}
use Rattle.std.specs.Int.Bits.{bit_and}
use Rattle.radix.specs.Characters.{character_of}
use Rattle.radix.specs.Packing.{first_code, second_code, third_code, characters_of}
use Rattle.radix.specs.Names.{is_letter_or_digit, blank, every}

abbrev pub is_letter_or_digit_in : Option ℕ → Bool
is_letter_or_digit_in none = false
is_letter_or_digit_in (some x) = is_letter_or_digit x

-- the first two codes of a word, 40a + b, both those of letters or digits; and the first number that is no pair of a word of 16 bits
unfoldable pub pair_named : ℕ → Bool
pair_named pair = is_letter_or_digit_in (character_of (pair / 40)) && is_letter_or_digit_in (character_of (pair % 40))

abbrev pub pair_end : ℕ
pair_end = 1639

-- bit `i` of a number
abbrev pub bit : ℕ → ℕ → Bool
bit number i = eqb (bit_and (number / 2 ^ i) 1) 1

-- three letters or digits
unfoldable pub filled : ℕ → Bool
filled word =
    is_letter_or_digit_in (character_of (first_code word))
    && (is_letter_or_digit_in (character_of (second_code word)) && is_letter_or_digit_in (character_of (third_code word)))

-- letters and digits, then blanks only
abbrev pub then_blanks : List ℕ → Bool
then_blanks [] = true
then_blanks (x ∷ xs) = cond (is_letter_or_digit x) (then_blanks xs) (every (eqb blank) (x ∷ xs))

abbrev pub starts_blank : List ℕ → Bool
starts_blank [] = true
starts_blank (x ∷ xs) = eqb blank x

abbrev pub name_test : Option (List ℕ) → Option (List ℕ) → Bool
name_test (some xs) (some ys) = not (starts_blank xs) && then_blanks (xs ++ ys)
name_test (some xs) none = false
name_test none ys = false

abbrev pub extension_test : Option (List ℕ) → Bool
extension_test (some xs) = then_blanks xs
extension_test none = false

unfoldable pub legal_name : ℕ → ℕ → Bool
legal_name first second = name_test (characters_of first) (characters_of second)

unfoldable pub legal_extension : ℕ → Bool
legal_extension word = extension_test (characters_of word)
