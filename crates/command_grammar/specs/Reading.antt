-- The paper's reading of a line: what it says, where its numbers keep their bounds.
use Rattle.std.specs.Prelude.{ℕ, zero, suc, List, [], ◌∷◌, cond, eqb}
use Rattle.std.proofs.Math.Option.{Option, none, some}
use Rattle.command_grammar.specs.Parsed.{Specification, Parsed}
use Rattle.command_grammar.specs.Grammar.{Command}
use Rattle.command_grammar.specs.Bounded.{Bounded}

-- A reading is what a line says, with its numbers whole: only `Reads` says of which line it is one.
abbrev pub Reading : Type 0
Reading = Parsed

-- "Demand 3 accepts exactly the lines of the grammar whose numbers keep these bounds": this is the line's reading
pub data Reads : List ℕ → Reading → Type 0 where
  reads : {line : List ℕ} {said : Parsed} → Command line said → Bounded said → Reads line said

-- "54, a number over its bound": the grammar writes the line, and its numbers do not keep the bounds
pub data OverBound : List ℕ → Type 0 where
  exceeds : {line : List ℕ} {said : Parsed} → Command line said → (Bounded said → ⊥) → OverBound line

-- "a line with no `<` has no input side"
abbrev pub input_of : Option (List Specification) → List Specification
input_of none = []
input_of (some side) = side

-- "side 0 is output, 1 input"; any other number is no side
unfoldable pub side_of : ℕ → Reading → List Specification
side_of side reading = cond (eqb side 0) reading.output (cond (eqb side 1) (input_of reading.input) [])

-- "a place k from 0": the specification of a side at that place
unfoldable pub specification_at : ℕ → List Specification → Option Specification
specification_at k [] = none
specification_at zero (v ∷ vs) = some v
specification_at (suc k) (v ∷ vs) = specification_at k vs
