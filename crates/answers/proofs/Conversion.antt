-- The laws of conversions: which code is given and why, the answer of each case, what a refusal leaves, and that a pair of conversions undo each other.
use Prim.Native.Nat.{ℕ}
use mathlib.Core.Path.{◌≡◌, refl, sym, ap}
use mathlib.Core.Logic.{◌⊎◌, inl, inr, ◌↔◌}
use mathlib.Core.Bool.{true}
use mathlib.Core.List.{List}
use mathlib.Core.Option.{Option, none, some}
use native.Mathlib.Omega.{arith}
use native.Mathlib.Decide.{ℕ_discrete}
use lib.ListN.{length}
use borrow.Author.Tests.{eq-eqb, ne_eqb}
use Rattle.answers.proofs.Refusals.{refusal_is}
use Rattle.answers.specs.Refusals.{table_order, in_order, first_of, on_success, answered, lent}
use Rattle.answers.specs.Missing.{or_else}
use Rattle.answers.specs.Conversion.{conversion_rows, to_number, Converted, to_characters}

-- 41 stands before 60 in the table
pub conversion_ordered : {A : Type 0} (size : ℕ) (bytes : List ℕ) (result : Option A) → in_order table_order 0 (conversion_rows size bytes result) ≡ true
unfolding conversion_rows
conversion_ordered size bytes result = refl

-- The code of a conversion, either way, with its cause.
pub data Cause {A : Type 0} (size : ℕ) (bytes : List ℕ) : Option A → ℕ → Type 0 where
  other_size : {result : Option A} → (length bytes ≡ size → ⊥) → Cause size bytes result 0o41
  not_of_set : length bytes ≡ size → Cause size bytes none 0o60
  converted : {a : A} → length bytes ≡ size → Cause size bytes (some a) 0

module _ {A : Type 0} (size : ℕ) (bytes : List ℕ) where
  code_41 : (result : Option A) → (length bytes ≡ size → ⊥) → first_of (conversion_rows size bytes result) ≡ 0o41
  unfolding conversion_rows first_of
  code_41 result other = rw (ne_eqb (length bytes) size other)

  code_60 : (result : Option A) → length bytes ≡ size → result ≡ none → first_of (conversion_rows size bytes result) ≡ 0o60
  unfolding conversion_rows first_of
  code_60 result same nothing = rw (eq-eqb (length bytes) size same, nothing)

  code_0 : (result : Option A) (a : A) → length bytes ≡ size → result ≡ some a → first_of (conversion_rows size bytes result) ≡ 0
  unfolding conversion_rows first_of
  code_0 result a same is = rw (eq-eqb (length bytes) size same, is)

  -- each code has its cause
  pub cause : (result : Option A) → Cause size bytes result (first_of (conversion_rows size bytes result))
  cause result = sized (ℕ_discrete (length bytes) size) result
    where
      sized : Dec (length bytes ≡ size) → (o : Option A) → Cause size bytes o (first_of (conversion_rows size bytes o))
      sized (no other) o = rw (code_41 o other) (other_size other)
      sized (yes same) none = rw (code_60 none same refl) (not_of_set same)
      sized (yes same) (some a) = rw (code_0 (some a) a same refl) (converted same)

  of_three : (o : Option A) (code : ℕ) → Cause size bytes o code → (code ≡ 0) ⊎ ((code ≡ 0o41) ⊎ (code ≡ 0o60))
  of_three o code (other_size other) = inr (inl refl)
  of_three o code (not_of_set same) = inr (inr refl)
  of_three o code (converted same) = inl refl

  cause_41 : (o : Option A) (code : ℕ) → Cause size bytes o code → code ≡ 0o41 → length bytes ≡ size → ⊥
  cause_41 o code (other_size other) is same = other same
  cause_41 o code (not_of_set same) is same₂ = omega arith
  cause_41 o code (converted same) is same₂ = omega arith

  cause_60 : (o : Option A) (code : ℕ) → Cause size bytes o code → code ≡ 0o60 → (length bytes ≡ size) × (o ≡ none)
  cause_60 o code (other_size other) is = absurd (omega arith)
  cause_60 o code (not_of_set same) is = (same, refl)
  cause_60 o code (converted same) is = absurd (omega arith)

  cause_0 : (o : Option A) (code : ℕ) → Cause size bytes o code → code ≡ 0 → (length bytes ≡ size) × ((a : A) × (o ≡ some a))
  cause_0 o code (other_size other) is = absurd (omega arith)
  cause_0 o code (not_of_set same) is = absurd (omega arith)
  cause_0 o code (converted {a} same) is = (same, (a, refl))

  module _ (result : Option A) where
    -- no conversion has another code
    pub code_of_three : (first_of (conversion_rows size bytes result) ≡ 0)
        ⊎ ((first_of (conversion_rows size bytes result) ≡ 0o41) ⊎ (first_of (conversion_rows size bytes result) ≡ 0o60))
    code_of_three = of_three result (first_of (conversion_rows size bytes result)) (cause result)

    -- 41 exactly if the buffer is of another size, whatever else is wrong
    pub code_41_iff : first_of (conversion_rows size bytes result) ≡ 0o41 ↔ (length bytes ≡ size → ⊥)
    code_41_iff = (cause_41 result (first_of (conversion_rows size bytes result)) (cause result), code_41 result)

    -- 60 exactly if it is of the size and the input is not of the set; what that means is said by the conversion
    pub code_60_iff : {NotOfSet : Type 0} → (length bytes ≡ size → (result ≡ none ↔ NotOfSet))
        → (first_of (conversion_rows size bytes result) ≡ 0o60 ↔ ((length bytes ≡ size) × NotOfSet))
    code_60_iff means = (
      λ is. let why = cause_60 result (first_of (conversion_rows size bytes result)) (cause result) is in (why.0, (means why.0).0 why.1),
      λ why. code_60 result why.0 ((means why.0).1 why.1),
    )

    -- 0 exactly if it is of the size and the input converts
    pub code_0_iff : first_of (conversion_rows size bytes result) ≡ 0 ↔ ((length bytes ≡ size) × ((a : A) × (result ≡ some a)))
    code_0_iff = (
      cause_0 result (first_of (conversion_rows size bytes result)) (cause result),
      λ taken. code_0 result taken.1.0 taken.0 taken.1.1,
    )

module _ (size : ℕ) (number : List ℕ → Option ℕ) (characters : List ℕ) where
  pub number_41 : (length characters ≡ size → ⊥) → to_number size number characters ≡ record { code = 0o41; number = 0 }
  unfolding to_number conversion_rows answered on_success first_of
  number_41 other = rw (ne_eqb (length characters) size other)

  pub number_60 : length characters ≡ size → number characters ≡ none → to_number size number characters ≡ record { code = 0o60; number = 0 }
  unfolding to_number conversion_rows answered on_success first_of
  number_60 same nothing = rw (eq-eqb (length characters) size same, nothing)

  pub number_given : {n : ℕ} → length characters ≡ size → number characters ≡ some n → to_number size number characters ≡ record { code = 0; number = n }
  unfolding to_number conversion_rows answered on_success first_of
  number_given same is = rw (eq-eqb (length characters) size same, is)

  -- a success was of the size asked, and of the set
  pub number_taken : (to_number size number characters).code ≡ 0 → (length characters ≡ size) × ((n : ℕ) × (number characters ≡ some n))
  unfolding to_number answered
  number_taken success = (code_0_iff size characters (number characters)).0 success

module _ (size : ℕ) (characters : ℕ → Option (List ℕ)) (number : ℕ) (buffer : List ℕ) where
  pub characters_41 : (length buffer ≡ size → ⊥) → to_characters size characters number buffer ≡ record { code = 0o41; buffer = buffer }
  unfolding to_characters conversion_rows lent on_success first_of
  characters_41 other = rw (ne_eqb (length buffer) size other)

  pub characters_60 : length buffer ≡ size → characters number ≡ none → to_characters size characters number buffer ≡ record { code = 0o60; buffer = buffer }
  unfolding to_characters conversion_rows lent on_success first_of
  characters_60 same nothing = rw (eq-eqb (length buffer) size same, nothing)

  pub characters_given : {s : List ℕ} → length buffer ≡ size → characters number ≡ some s → to_characters size characters number buffer ≡ record { code = 0; buffer = s }
  unfolding to_characters conversion_rows lent on_success first_of
  characters_given same is = rw (eq-eqb (length buffer) size same, is)

  -- a success was of the size asked, and of the set
  pub characters_taken : (to_characters size characters number buffer).code ≡ 0 → (length buffer ≡ size) × ((s : List ℕ) × (characters number ≡ some s))
  unfolding to_characters
  characters_taken success = (code_0_iff size buffer (characters number)).0 success

-- "A refusal returns its code, any other number in the answer 0"
pub number_refused : (size : ℕ) (number : List ℕ → Option ℕ) (characters : List ℕ) → ((to_number size number characters).code ≡ 0 → ⊥)
    → (to_number size number characters).number ≡ 0
unfolding to_number answered
number_refused size number characters refused =
    refusal_is (or_else 0 (number characters)) 0 refused

-- "and nothing in the image or a lent buffer changes."
pub characters_refused : (size : ℕ) (characters : ℕ → Option (List ℕ)) (number : ℕ) (buffer : List ℕ)
    → ((to_characters size characters number buffer).code ≡ 0 → ⊥) → (to_characters size characters number buffer).buffer ≡ buffer
unfolding to_characters lent
characters_refused size characters number buffer refused =
    refusal_is (or_else buffer (characters number)) buffer refused

-- an answer of characters in its two parts, as a call gives them
pub in_parts : {result : Converted} {code : ℕ} {buffer : List ℕ} → result ≡ record { code = code; buffer = buffer } → (code ≡ result.code) × (buffer ≡ result.buffer)
in_parts is = (sym (ap (λ r. r.code) is), sym (ap (λ r. r.buffer) is))

-- A pair of conversions: characters of the size convert to a number exactly if that number converts to them.
pub record Pair (size : ℕ) (number : List ℕ → Option ℕ) (characters : ℕ → Option (List ℕ)) : Type 0 where
  pub sized : (n : ℕ) (s : List ℕ) → characters n ≡ some s → length s ≡ size
  pub back : (n : ℕ) (s : List ℕ) → characters n ≡ some s → number s ≡ some n
  pub forth : (s : List ℕ) (n : ℕ) → length s ≡ size → number s ≡ some n → characters n ≡ some s

module _ {size : ℕ} {number : List ℕ → Option ℕ} {characters : ℕ → Option (List ℕ)} (pair : Pair size number characters) where
  -- what was written for a number is read as that number
  pub number_again : (n : ℕ) (buffer : List ℕ) → (to_characters size characters n buffer).code ≡ 0
      → to_number size number (to_characters size characters n buffer).buffer ≡ record { code = 0; number = n }
  number_again n buffer success =
      let taken = characters_taken size characters n buffer success in
      let is = taken.1.1 in
      rw (characters_given size characters n buffer taken.0 is)
      (number_given size number taken.1.0 (pair.sized n taken.1.0 is) (pair.back n taken.1.0 is))

  -- the number of characters is written as those characters
  pub characters_again : (s buffer : List ℕ) → length buffer ≡ size → (to_number size number s).code ≡ 0
      → to_characters size characters (to_number size number s).number buffer ≡ record { code = 0; buffer = s }
  characters_again s buffer same success =
      let taken = number_taken size number s success in
      let is = taken.1.1 in
      rw (number_given size number s taken.0 is)
      (characters_given size characters taken.1.0 buffer same (pair.forth s taken.1.0 taken.0 is))
