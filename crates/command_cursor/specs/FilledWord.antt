-- The Radix-50 words of names: a name of up to 6 characters is two words, an extension or a device of up to 3 is one.
use Rattle.std.specs.Prelude.{ℕ, List, take, drop}
use Rattle.answers.specs.Missing.{or_else}
use Rattle.radix.specs.Packing.{word_of}
use Rattle.radix.specs.Names.{blank_filled}

-- up to three characters, then blanks. Letters and digits all have codes, and a name, an extension and a device of the grammar are not longer,
-- so that of them 0 only stands for three blanks.
unfoldable pub filled_word : List ℕ → ℕ
filled_word characters = or_else 0 (word_of (blank_filled 3 characters))

abbrev pub first_word : List ℕ → ℕ
first_word name = filled_word (take 3 name)

abbrev pub second_word : List ℕ → ℕ
second_word name = filled_word (drop 3 name)
