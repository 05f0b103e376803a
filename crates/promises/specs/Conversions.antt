-- What the demands ask of a conversion, in their words. docs/PROMISES.md has the demands by number.
use Rattle.std.specs.Prelude.{ℕ, ◌≡◌, ◌⊎◌, ◌↔◌, List, length}
use Rattle.answers.specs.declared.Answer.{Answer}
use Rattle.answers.specs.Conversion.{Converted}

-- the codes that a conversion may give
abbrev pub ConversionCode : ℕ → Type 0
ConversionCode code = (code ≡ 0) ⊎ ((code ≡ 0o41) ⊎ (code ≡ 0o60))

-- of characters to a number, asked for so many characters; `NotOfSet` says which of that size are refused
pub record NumberDemands (size : ℕ) (NotOfSet : List ℕ → Type 0) (conversion : List ℕ → Answer) : Type 0 where
  -- 1.1 "Every request accepts any numbers and any image."
  pub any : (characters : List ℕ) → ConversionCode (conversion characters).code
  -- 1.2 "What cannot be done is refused with the code that the build document orders first,"
  pub other_size : (characters : List ℕ) → (conversion characters).code ≡ 0o41 ↔ (length characters ≡ size → ⊥)
  pub not_of_set : (characters : List ℕ) → (conversion characters).code ≡ 0o60 ↔ ((length characters ≡ size) × NotOfSet characters)
  -- 1.3 the characters are lent for reading only; the number is 0
  pub refused : (characters : List ℕ) → ((conversion characters).code ≡ 0 → ⊥) → (conversion characters).number ≡ 0

-- of a number to characters, in a lent buffer of so many; `NotOfSet` says which numbers are refused
pub record CharactersDemands (size : ℕ) (NotOfSet : ℕ → Type 0) (conversion : ℕ → List ℕ → Converted) : Type 0 where
  -- 1.1 "Every request accepts any numbers and any image."
  pub any : (number : ℕ) (buffer : List ℕ) → ConversionCode (conversion number buffer).code
  -- 1.2 "What cannot be done is refused with the code that the build document orders first,"
  pub other_size : (number : ℕ) (buffer : List ℕ) → (conversion number buffer).code ≡ 0o41 ↔ (length buffer ≡ size → ⊥)
  pub not_of_set : (number : ℕ) (buffer : List ℕ) → (conversion number buffer).code ≡ 0o60 ↔ ((length buffer ≡ size) × NotOfSet number)
  -- 1.3 "and the image and each lent buffer then hold what they held before."
  pub refused : (number : ℕ) (buffer : List ℕ) → ((conversion number buffer).code ≡ 0 → ⊥) → (conversion number buffer).buffer ≡ buffer

-- 2.4 "packing as well as unpacking": each of the two gives back what the other took
pub record InverseDemands (size : ℕ) (to_number : List ℕ → Answer) (to_characters : ℕ → List ℕ → Converted) : Type 0 where
  pub number_again : (number : ℕ) (buffer : List ℕ) → (to_characters number buffer).code ≡ 0
      → to_number (to_characters number buffer).buffer ≡ record { code = 0; number = number }
  pub characters_again : (characters buffer : List ℕ) → length buffer ≡ size → (to_number characters).code ≡ 0
      → to_characters (to_number characters).number buffer ≡ record { code = 0; buffer = characters }

-- "the stated result and final buffers are the only ones possible for given inputs, refusal or not": a contract gives a call's
-- result r, and what it leaves in the buffer, by these equations with a meaning, so whoever meets it too agrees
abbrev pub OneAnswer : (List ℕ → Answer) → Type 0
OneAnswer meaning = (characters : List ℕ) (r r' : Answer) → r ≡ meaning characters → r' ≡ meaning characters → r ≡ r'

abbrev pub OneWriting : (ℕ → List ℕ → Converted) → Type 0
OneWriting meaning = (number : ℕ) (buffer : List ℕ) (r r' : ℕ) (after after' : List ℕ)
    → r ≡ (meaning number buffer).code → after ≡ (meaning number buffer).buffer
    → r' ≡ (meaning number buffer).code → after' ≡ (meaning number buffer).buffer → (r ≡ r') × (after ≡ after')

-- "Shut out: refusing everything ..; one fixed answer ..; touching nothing": some input is answered 0, no answer is that of all inputs,
-- and not every buffer stays
pub record NoHollowAnswer (meaning : List ℕ → Answer) : Type 0 where
  pub taken : (characters : List ℕ) × ((meaning characters).code ≡ 0)
  pub answer : (r : Answer) → ((characters : List ℕ) → r ≡ meaning characters) → ⊥

pub record NoHollowWriting (meaning : ℕ → List ℕ → Converted) : Type 0 where
  pub taken : (number : ℕ) × (buffer : List ℕ) × ((meaning number buffer).code ≡ 0)
  pub code : (r : ℕ) → ((number : ℕ) (buffer : List ℕ) → r ≡ (meaning number buffer).code) → ⊥
  pub buffer : ((number : ℕ) (buffer : List ℕ) → buffer ≡ (meaning number buffer).buffer) → ⊥
