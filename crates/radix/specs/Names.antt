-- Legal names and extensions.
use Rattle.std.specs.Prelude.{ℕ, ◌-◌, ◌≤◌, Bool, true, ◌&&◌, ◌||◌, List, [], ◌∷◌, ◌++◌, ◌≡◌, leb, length, take, drop, replicate}
use Rattle.std.proofs.Math.Option.{some}
use Rattle.radix.specs.Packing.{word_of}

-- A-Z, 0-9
abbrev pub is_letter : ℕ → Bool
is_letter x = leb 65 x && leb x 90

abbrev pub is_digit : ℕ → Bool
is_digit x = leb 48 x && leb x 57

abbrev pub is_letter_or_digit : ℕ → Bool
is_letter_or_digit x = is_letter x || is_digit x

abbrev pub blank : ℕ
blank = 32

abbrev pub every : (ℕ → Bool) → List ℕ → Bool
every t [] = true
every t (x ∷ xs) = t x && every t xs

-- characters, at most `size`, then blanks only, `size` in all
abbrev pub blank_filled : ℕ → List ℕ → List ℕ
blank_filled size characters = characters ++ replicate (size - length characters) blank

-- "A legal name is two Radix-50 words of 1 to 6 of A-Z, 0-9, then blanks;"
pub record LegalName (first second : ℕ) : Type 0 where
  pub name : List ℕ
  pub least : 1 ≤ length name
  pub most : length name ≤ 6
  pub made : every is_letter_or_digit name ≡ true
  pub first_word : word_of (take 3 (blank_filled 6 name)) ≡ some first
  pub second_word : word_of (drop 3 (blank_filled 6 name)) ≡ some second

-- "an extension one word of 0 to 3 such, then blanks."
pub record LegalExtension (word : ℕ) : Type 0 where
  pub extension : List ℕ
  pub most : length extension ≤ 3
  pub made : every is_letter_or_digit extension ≡ true
  pub one_word : word_of (blank_filled 3 extension) ≡ some word
