-- Numbers written in digits, over the base.
use Rattle.std.specs.Prelude.{ℕ, zero, suc, ◌+◌, ◌-◌, ◌*◌, ◌/◌, ◌%◌, Bool, true, cond, ◌&&◌, List, [], ◌∷◌, ◌++◌, leb, ltb}
use Rattle.std.proofs.Math.Option.{Option, none, some}

-- the digits of a base are so many characters from 0, whose ASCII number is 48, on
abbrev pub is_digit_of : ℕ → ℕ → Bool
is_digit_of base x = leb 48 x && ltb x (48 + base)

abbrev pub all_digits : ℕ → List ℕ → Bool
all_digits base [] = true
all_digits base (x ∷ xs) = is_digit_of base x && all_digits base xs

-- the number that digits write behind a number that those before them wrote
abbrev pub value_from : ℕ → ℕ → List ℕ → ℕ
value_from base before [] = before
value_from base before (x ∷ xs) = value_from base (before * base + (x - 48)) xs

-- the number that digits write, the highest first
unfoldable pub value_of : ℕ → List ℕ → ℕ
value_of base digits = value_from base 0 digits

-- so many digits of a number, the highest first: those of its quotient by the base, and one for the remainder
abbrev pub digits : ℕ → ℕ → ℕ → List ℕ
digits base zero number = []
digits base (suc places) number = digits base places (number / base) ++ ((48 + number % base) ∷ [])

-- "at most 65535": the largest number of a word, in octal 177777
abbrev pub largest : ℕ
largest = 65535

-- the number that characters write, if they are digits and it is not too large
unfoldable pub number_of : ℕ → List ℕ → Option ℕ
number_of base characters = cond (all_digits base characters && leb (value_of base characters) largest) (some (value_of base characters)) none

-- the digits of a number, if it is not too large
unfoldable pub digits_of : ℕ → ℕ → ℕ → Option (List ℕ)
digits_of base places number = cond (leb number largest) (some (digits base places number)) none
