-- D2BIN and BIN2D: the decimal pair.
use Rattle.std.specs.Prelude.{ℕ, List}
use Rattle.answers.specs.declared.Answer.{Answer}
use Rattle.answers.specs.Conversion.{Converted, to_number, to_characters}
use Rattle.numerals.specs.Digits.{number_of, digits_of}

-- "The decimal pair takes and gives five digits, at most 65535;"
unfoldable pub d2bin : List ℕ → Answer
d2bin characters = to_number 5 (number_of 10) characters

unfoldable pub bin2d : ℕ → List ℕ → Converted
bin2d number buffer = to_characters 5 (digits_of 10 5) number buffer
