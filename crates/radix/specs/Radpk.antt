-- RADPK: three characters make a word.
use Rattle.std.specs.Prelude.{ℕ, List}
use Rattle.answers.specs.declared.Answer.{Answer}
use Rattle.answers.specs.Conversion.{to_number}
use Rattle.radix.specs.Packing.{word_of}

-- "Character buffers are of exactly 3 .. bytes": three characters make a word
unfoldable pub radpk : List ℕ → Answer
radpk characters = to_number 3 word_of characters
