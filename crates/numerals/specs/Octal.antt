-- O2BIN and BIN2O: the octal pair.
use Rattle.std.specs.Prelude.{ℕ, List}
use Rattle.answers.specs.declared.Answer.{Answer}
use Rattle.answers.specs.Conversion.{Converted, to_number, to_characters}
use Rattle.numerals.specs.Digits.{number_of, digits_of}

-- "the octal pair six, at most 177777."
unfoldable pub o2bin : List ℕ → Answer
o2bin characters = to_number 6 (number_of 8) characters

unfoldable pub bin2o : ℕ → List ℕ → Converted
bin2o number buffer = to_characters 6 (digits_of 8 6) number buffer
