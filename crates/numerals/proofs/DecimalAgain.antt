-- D2BIN and BIN2D undo each other.
use Prim.Native.Nat.{ℕ}
use mathlib.Core.Path.{◌≡◌}
use mathlib.Core.List.{List}
use native.Mathlib.Omega.{arith}
use lib.ListN.{length}
use Rattle.answers.proofs.Conversion.{Pair, number_again, characters_again}
use Rattle.numerals.specs.Digits.{number_of, digits_of}
use Rattle.numerals.specs.Decimal.{d2bin, bin2d}
use Rattle.numerals.proofs.DigitsPairs.{numeral_pair}

decimal : Pair 5 (number_of 10) (digits_of 10 5)
decimal = numeral_pair 10 5 (omega arith) (omega arith)

pub decimal_number_again : (n : ℕ) (buffer : List ℕ) → (bin2d n buffer).code ≡ 0
    → d2bin (bin2d n buffer).buffer ≡ record { code = 0; number = n }
unfolding d2bin bin2d
decimal_number_again n buffer success = number_again decimal n buffer success

pub decimal_characters_again : (s buffer : List ℕ) → length buffer ≡ 5 → (d2bin s).code ≡ 0
    → bin2d (d2bin s).number buffer ≡ record { code = 0; buffer = s }
unfolding d2bin bin2d
decimal_characters_again s buffer long success = characters_again decimal s buffer long success
