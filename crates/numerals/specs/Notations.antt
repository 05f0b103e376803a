-- Means: what the two notations owe: their conversions are the reader and the writer at five places of base 10, and at six of base 8; neither base has more digits than ten.
use Rattle.std.specs.Prelude.{ℕ, ◌≤◌, List, ◌≡◌, refl}
use borrow.Author.Tests.{leb-true}
use Rattle.answers.specs.Conversion.{to_number, to_characters}
use Rattle.numerals.specs.Digits.{number_of, digits_of}
use Rattle.numerals.specs.Decimal.{d2bin, bin2d}
use Rattle.numerals.specs.Octal.{o2bin, bin2o}

pub decimal_read : (s : List ℕ) → d2bin s ≡ to_number 5 (number_of 10) s
unfolding d2bin
decimal_read s = refl

pub decimal_written : (n : ℕ) (s : List ℕ) → bin2d n s ≡ to_characters 5 (digits_of 10 5) n s
unfolding bin2d
decimal_written n s = refl

pub octal_read : (s : List ℕ) → o2bin s ≡ to_number 6 (number_of 8) s
unfolding o2bin
octal_read s = refl

pub octal_written : (n : ℕ) (s : List ℕ) → bin2o n s ≡ to_characters 6 (digits_of 8 6) n s
unfolding bin2o
octal_written n s = refl

pub decimal_digits : (1 ≤ 10) × (10 ≤ 10)
decimal_digits = (leb-true 1 10 refl, leb-true 10 10 refl)

pub octal_digits : (1 ≤ 8) × (8 ≤ 10)
octal_digits = (leb-true 1 8 refl, leb-true 8 10 refl)
