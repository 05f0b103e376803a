-- What each conversion refuses with 60: "a conversion's input is not of its set, or too large".
use Rattle.std.specs.Prelude.{ℕ, ◌+◌, ◌≤◌, ◌<◌, ◌⊎◌, List, length, get_or}
use Rattle.radix.specs.Characters.{Outside}
use Rattle.radix.specs.Packing.{NoCharacters}
use Rattle.numerals.specs.Digits.{value_of}

-- RADPK: one of the three characters is outside the set
abbrev pub NotRadix : List ℕ → Type 0
NotRadix s = Outside (get_or s 0 0) ⊎ (Outside (get_or s 1 0) ⊎ Outside (get_or s 2 0))

-- "RADUP refuses a word with 29 or from 64000 up."
abbrev pub NotWord : ℕ → Type 0
NotWord word = NoCharacters word

-- a character that is no digit of the base, 48 being the ASCII number of 0
pub record NoDigit (base : ℕ) (characters : List ℕ) : Type 0 where
  pub place : ℕ
  pub inside : place < length characters
  pub outside : (get_or characters place 0 < 48) ⊎ (48 + base ≤ get_or characters place 0)

-- BIN2D, BIN2O: "at most 65535", which is 177777 in octal
abbrev pub TooLarge : ℕ → Type 0
TooLarge number = 65535 < number

-- D2BIN, O2BIN
abbrev pub NotNumeral : ℕ → List ℕ → Type 0
NotNumeral base characters = NoDigit base characters ⊎ TooLarge (value_of base characters)
