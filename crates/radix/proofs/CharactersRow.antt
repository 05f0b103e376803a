-- The characters in a row, each in the place of its code, 0 where a code has none: what stands in a place is the code's character.
use Prim.Native.Nat.{ℕ, zero, suc, ◌+◌, ◌<◌}
use mathlib.Core.Path.{◌≡◌, refl, sym, ap, ◌∙◌}
use mathlib.Core.List.{List, [], ◌∷◌}
use mathlib.Core.Option.{Option, none, some}
use native.Mathlib.Omega.{arith}
use lib.ListN.{get_or}
use Rattle.radix.specs.Characters.{table, code_of, character_of}
use Rattle.radix.proofs.Characters.{character_code}

abbrev byte_of : Option ℕ → ℕ
byte_of none = 0
byte_of (some character) = character

-- `many` places from a code on
abbrev row_from : ℕ → ℕ → List ℕ
row_from zero code = []
row_from (suc many) code = byte_of (character_of code) ∷ row_from many (suc code)

unfoldable pub row : List ℕ
row = row_from 40 0

row_at : (many from k : ℕ) → k < many → get_or (row_from many from) k 0 ≡ byte_of (character_of (from + k))
row_at zero from k low = absurd (omega arith)
row_at (suc many) from zero low = let same : from ≡ from + zero = omega arith in ap (λ c. byte_of (character_of c)) same
row_at (suc many) from (suc k) low = row_at many (suc from) k (omega arith) ∙ ap (λ c. byte_of (character_of c)) (omega arith)

-- no character is 0
not_zero : (c : ℕ) → character_of c ≡ some 0 → ⊥
unfolding code_of table
not_zero c is = let never : none ≡ some c = character_code c 0 is in let z : ◌≡◌ {A = ℕ} 0 1 = cc in omega arith

stands : (code : ℕ) → code < 40 → get_or row code 0 ≡ byte_of (character_of code)
unfolding row
stands code low = row_at 40 0 code low ∙ ap (λ c. byte_of (character_of c)) (omega arith)

pub row_empty : (code : ℕ) → code < 40 → get_or row code 0 ≡ 0 → character_of code ≡ none
row_empty code low is = at (character_of code) refl (sym (stands code low) ∙ is)
  where
    at : (o : Option ℕ) → character_of code ≡ o → byte_of o ≡ 0 → o ≡ none
    at none same nothing = refl
    at (some x) same nothing = absurd (not_zero code (same ∙ ap some nothing))

pub row_filled : (code : ℕ) → code < 40 → (get_or row code 0 ≡ 0 → ⊥) → character_of code ≡ some (get_or row code 0)
row_filled code low filled = at (character_of code) (stands code low)
  where
    at : (o : Option ℕ) → get_or row code 0 ≡ byte_of o → o ≡ some (get_or row code 0)
    at none is = absurd (filled is)
    at (some x) is = ap some (sym is)
