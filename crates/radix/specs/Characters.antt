-- The characters of Radix-50 and their codes: one table, read both ways.
use Rattle.std.specs.Prelude.{ℕ, ◌+◌, ◌-◌, ◌≤◌, cond, ◌&&◌, List, [], ◌∷◌, ◌≡◌, leb, ltb}
use Rattle.std.proofs.Math.Option.{Option, none, some}

-- `many` numbers in a row from `from` on, each beside the number equally far from `beside`
pub record Range : Type 0 where
  pub many : ℕ
  pub from : ℕ
  pub beside : ℕ

abbrev pub range : ℕ → ℕ → ℕ → Range
range many from beside = record { many = many; from = from; beside = beside }

-- "Radix-50: blank 0, A-Z 1-26, $ 27, period 28, 0-9 30-39; 29 has no character."
-- Characters stand by their ASCII numbers: blank 32, A 65, $ 36, period 46, 0 48.
unfoldable pub table : List Range
table = range 1 32 0 ∷ (range 26 65 1 ∷ (range 1 36 27 ∷ (range 1 46 28 ∷ (range 10 48 30 ∷ []))))

-- the table with its two columns exchanged
abbrev pub turned : List Range → List Range
turned [] = []
turned (r ∷ rs) = range r.many r.beside r.from ∷ turned rs

-- what stands beside x in a table, if x stands in it
abbrev pub beside_in : List Range → ℕ → Option ℕ
beside_in [] x = none
beside_in (r ∷ rs) x = cond (leb r.from x && ltb x (r.from + r.many)) (some (r.beside + (x - r.from))) (beside_in rs x)

-- the code of a character
unfoldable pub code_of : ℕ → Option ℕ
code_of character = beside_in table character

-- the character of a code
unfoldable pub character_of : ℕ → Option ℕ
character_of code = beside_in (turned table) code

-- a number that is no character of the set
pub record Outside (x : ℕ) : Type 0 where
  pub blank : x ≡ 32 → ⊥
  pub letter : 65 ≤ x → x ≤ 90 → ⊥
  pub dollar : x ≡ 36 → ⊥
  pub period : x ≡ 46 → ⊥
  pub digit : 48 ≤ x → x ≤ 57 → ⊥
