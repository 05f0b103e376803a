-- What is promised of the conversions, side by side, each in a line that cites its proof. docs/PROMISES.md leads here from each demand.
use Prim.Native.Nat.{ℕ, ◌+◌, ◌*◌, ◌≤◌}
use mathlib.Core.Path.{◌≡◌, refl}
use mathlib.Core.Logic.{◌↔◌}
use mathlib.Core.Bool.{true}
use mathlib.Core.List.{List, [], ◌∷◌}
use mathlib.Core.Option.{Option, none, some}
use lib.ListN.{length, get_or}
use Rattle.answers.specs.Refusals.{table_order, in_order}
use Rattle.answers.specs.Conversion.{conversion_rows}
use Rattle.answers.proofs.Conversion.{conversion_ordered, number_given, characters_given}
use Rattle.radix.specs.Characters.{code_of, character_of, Outside}
use Rattle.radix.specs.Names.{LegalName, LegalExtension}
use Rattle.radix.specs.NamesTest.{legal_name, legal_extension}
use Rattle.radix.specs.Radpk.{radpk}
use Rattle.radix.specs.Radup.{radup}
use Rattle.radix.proofs.Characters.{code_none_iff}
use Rattle.radix.proofs.Packing.{packing_refused, unpacking_refused}
use Rattle.radix.proofs.Names.{name_iff, extension_iff}
use Rattle.radix.proofs.RadpkCases.{word_given}
use Rattle.radix.proofs.RadupCases.{codes_written}
use Rattle.radix.proofs.RadpkRadup as radix
use Rattle.numerals.specs.Digits.{all_digits, value_of, digits, number_of, digits_of}
use Rattle.numerals.specs.Decimal.{d2bin, bin2d}
use Rattle.numerals.specs.Octal.{o2bin, bin2o}
use Rattle.numerals.proofs.DigitsLimits.{number_small, digits_small}
use Rattle.numerals.proofs.DigitsRefused.{digits_refused}
use Rattle.numerals.proofs.DecimalAgain.{decimal_number_again, decimal_characters_again}
use Rattle.numerals.proofs.OctalAgain.{octal_number_again, octal_characters_again}
use Rattle.promises.specs.Refused.{NotRadix, NotWord, TooLarge, NotNumeral}
use Rattle.promises.specs.Conversions.{NumberDemands, CharactersDemands, InverseDemands, OneAnswer, OneWriting}
use Rattle.promises.proofs.RefusedDigits.{not_numeral}
use Rattle.promises.proofs.Conversions.{number_demands, characters_demands, one_answer, one_writing}

-- 1.2 the order: 41 stands before 60 in the table of document 01
pub conversions_ordered : {A : Type 0} (size : ℕ) (bytes : List ℕ) (result : Option A) → in_order table_order 0 (conversion_rows size bytes result) ≡ true
conversions_ordered size bytes result = conversion_ordered size bytes result

-- 1.1, 1.2 and 1.3 for each conversion, with exactly what it refuses
pub radpk_demands : NumberDemands 3 NotRadix radpk
unfolding radpk
radpk_demands = number_demands packing_refused

pub radup_demands : CharactersDemands 3 NotWord radup
unfolding radup
radup_demands = characters_demands unpacking_refused

pub d2bin_demands : NumberDemands 5 (NotNumeral 10) d2bin
unfolding d2bin
d2bin_demands = number_demands (λ s same. not_numeral 10 s)

pub bin2d_demands : CharactersDemands 5 TooLarge bin2d
unfolding bin2d
bin2d_demands = characters_demands (digits_refused 10 5)

pub o2bin_demands : NumberDemands 6 (NotNumeral 8) o2bin
unfolding o2bin
o2bin_demands = number_demands (λ s same. not_numeral 8 s)

pub bin2o_demands : CharactersDemands 6 TooLarge bin2o
unfolding bin2o
bin2o_demands = characters_demands (digits_refused 8 6)

-- 2.4 "Radix-50 and number conversions are right": the number is that of the codes, and that of the digits
pub radpk_right : (s : List ℕ) → length s ≡ 3 → (a b c : ℕ) → code_of (get_or s 0 0) ≡ some a → code_of (get_or s 1 0) ≡ some b → code_of (get_or s 2 0) ≡ some c
    → record { code = 0; number = 1600 * a + 40 * b + c } ≡ radpk s
radpk_right s same a b c first second third = word_given s same a b c (1600 * a + 40 * b + c) first second third refl

pub d2bin_right : (s : List ℕ) → length s ≡ 5 → all_digits 10 s ≡ true → value_of 10 s ≤ 65535 → d2bin s ≡ record { code = 0; number = value_of 10 s }
unfolding d2bin
d2bin_right s same all small = number_given 5 (number_of 10) s same (number_small 10 s all small)

pub o2bin_right : (s : List ℕ) → length s ≡ 6 → all_digits 8 s ≡ true → value_of 8 s ≤ 65535 → o2bin s ≡ record { code = 0; number = value_of 8 s }
unfolding o2bin
o2bin_right s same all small = number_given 6 (number_of 8) s same (number_small 8 s all small)

-- the other way, the characters are those of the word's codes, and the digits of the number
pub radup_right : (a b c x y z : ℕ) → character_of a ≡ some x → character_of b ≡ some y → character_of c ≡ some z → (buffer : List ℕ) → length buffer ≡ 3
    → radup (1600 * a + 40 * b + c) buffer ≡ record { code = 0; buffer = x ∷ (y ∷ (z ∷ [])) }
radup_right = codes_written

pub bin2d_right : (n : ℕ) → n ≤ 65535 → (buffer : List ℕ) → length buffer ≡ 5 → bin2d n buffer ≡ record { code = 0; buffer = digits 10 5 n }
unfolding bin2d
bin2d_right n small buffer same = characters_given 5 (digits_of 10 5) n buffer same (digits_small 10 5 n small)

pub bin2o_right : (n : ℕ) → n ≤ 65535 → (buffer : List ℕ) → length buffer ≡ 6 → bin2o n buffer ≡ record { code = 0; buffer = digits 8 6 n }
unfolding bin2o
bin2o_right n small buffer same = characters_given 6 (digits_of 8 6) n buffer same (digits_small 8 6 n small)

-- "packing as well as unpacking": each pair undoes itself, both ways
pub radix_inverse : InverseDemands 3 radpk radup
radix_inverse = record { number_again = radix.word_again; characters_again = radix.characters_again }

pub decimal_inverse : InverseDemands 5 d2bin bin2d
decimal_inverse = record { number_again = decimal_number_again; characters_again = decimal_characters_again }

pub octal_inverse : InverseDemands 6 o2bin bin2o
octal_inverse = record { number_again = octal_number_again; characters_again = octal_characters_again }

-- what the tests of characters and of names mean in characters
pub coded : (x : ℕ) → code_of x ≡ none ↔ Outside x
coded = code_none_iff

pub named : (first second : ℕ) → legal_name first second ≡ true ↔ LegalName first second
named = name_iff

pub extended : (word : ℕ) → legal_extension word ≡ true ↔ LegalExtension word
extended = extension_iff

-- each conversion has one answer, and leaves one buffer
pub radpk_one : OneAnswer radpk
radpk_one = one_answer radpk

pub radup_one : OneWriting radup
radup_one = one_writing radup

pub d2bin_one : OneAnswer d2bin
d2bin_one = one_answer d2bin

pub bin2d_one : OneWriting bin2d
bin2d_one = one_writing bin2d

pub o2bin_one : OneAnswer o2bin
o2bin_one = one_answer o2bin

pub bin2o_one : OneWriting bin2o
bin2o_one = one_writing bin2o
