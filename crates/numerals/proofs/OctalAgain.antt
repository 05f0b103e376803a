-- O2BIN and BIN2O undo each other.
use Prim.Native.Nat.{ℕ}
use mathlib.Core.Path.{◌≡◌}
use mathlib.Core.List.{List}
use native.Mathlib.Omega.{arith}
use lib.ListN.{length}
use Rattle.answers.proofs.Conversion.{Pair, number_again, characters_again}
use Rattle.numerals.specs.Digits.{number_of, digits_of}
use Rattle.numerals.specs.Octal.{o2bin, bin2o}
use Rattle.numerals.proofs.DigitsPairs.{numeral_pair}

octal : Pair 6 (number_of 8) (digits_of 8 6)
octal = numeral_pair 8 6 (omega arith) (omega arith)

pub octal_number_again : (n : ℕ) (buffer : List ℕ) → (bin2o n buffer).code ≡ 0
    → o2bin (bin2o n buffer).buffer ≡ record { code = 0; number = n }
unfolding o2bin bin2o
octal_number_again n buffer success = number_again octal n buffer success

pub octal_characters_again : (s buffer : List ℕ) → length buffer ≡ 6 → (o2bin s).code ≡ 0
    → bin2o (o2bin s).number buffer ≡ record { code = 0; buffer = s }
unfolding o2bin bin2o
octal_characters_again s buffer long success = characters_again octal s buffer long success
