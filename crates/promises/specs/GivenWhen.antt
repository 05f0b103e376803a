-- A table of codes in the paper's propositions, and which code it gives.
use Rattle.std.specs.Prelude.{ℕ, ◌≡◌, true, List, [], ◌∷◌}
use Rattle.answers.specs.Refusals.{Row, row, table_order, in_order}

-- a row of the paper's table: "Code", "Given when"
pub record Case : Type 1 where
  pub code : ℕ
  pub When : Type 0

infix 70 ◌when◌
abbrev pub ◌when◌ : ℕ → Type 0 → Case
code when When = record { code = code; When = When }

-- "Of several, the first in this table is given.": a row holds and its code is given, or it does not and the rows behind it decide; "Success returns 0"
pub data GivesCode : List Case → ℕ → Type 1 where
  success : GivesCode [] 0
  here : {c : Case} {cases : List Case} → c.When → GivesCode (c ∷ cases) c.code
  behind : {c : Case} {cases : List Case} {code : ℕ} → (c.When → ⊥) → GivesCode cases code → GivesCode (c ∷ cases) code

-- do the codes stand in the order of the paper's table, which has them all? One code may stand in several rows.
abbrev pub code_rows : List Case → List Row
code_rows [] = []
code_rows (c ∷ cases) = row true c.code ∷ code_rows cases

abbrev pub InTableOrder : List Case → Type 0
InTableOrder cases = in_order table_order 0 (code_rows cases) ≡ true
