-- Which sides of a reading are absent.
use Prim.Native.Nat.{ℕ, zero, suc, ◌≤◌}
use mathlib.Core.Path.{◌≡◌, refl, ap}
use mathlib.Core.Logic.{◌⊎◌, inl, inr, ◌↔◌}
use mathlib.Core.List.{List, []}
use mathlib.Core.Option.{none}
use native.Mathlib.Omega.{arith}
use borrow.Author.Tests.{ne_eqb}
use Rattle.command_grammar.specs.Parsed.{Specification, Parsed}
use Rattle.command_grammar.specs.Grammar.{IsSide, Command}
use Rattle.command_grammar.specs.Grammar as G
use Rattle.command_grammar.specs.Reading.{Reading, Reads, reads, input_of, side_of}

pub no_side : (side : ℕ) (reading : Reading) → 2 ≤ side → side_of side reading ≡ []
unfolding side_of
no_side side reading high = rw (ne_eqb side 0 (λ is. omega arith), ne_eqb side 1 (λ is. omega arith))

some_specification : (s : List ℕ) (vs : List Specification) → IsSide s vs → vs ≡ [] → ⊥
some_specification s vs (G.IsSide.one one) is = let z : ◌≡◌ {A = ℕ} 0 1 = cc in omega arith
some_specification s vs (G.IsSide.more one rest) is = let z : ◌≡◌ {A = ℕ} 0 1 = cc in omega arith

output_side : (line : List ℕ) (said : Parsed) → Command line said → said.output ≡ [] → ⊥
output_side line said (G.Command.output {o} side) is = some_specification line o side is
output_side line said (G.Command.both {s} {o} side other) is = some_specification s o side is

input_side : (line : List ℕ) (said : Parsed) → Command line said → input_of said.input ≡ [] → said.input ≡ none
input_side line said (G.Command.output side) is = refl
input_side line said (G.Command.both {t} {i} side other) is = absurd (some_specification t i other is)

absent_said : (line : List ℕ) (said : Parsed) → Command line said → (side : ℕ)
    → side_of side said ≡ [] ↔ (((side ≡ 1) × (said.input ≡ none)) ⊎ (2 ≤ side))
unfolding side_of
absent_said line said says zero = (λ is. absurd (output_side line said says is), λ or. absurd (neither or))
  where
    neither : ((◌≡◌ {A = ℕ} 0 1) × (said.input ≡ none)) ⊎ (2 ≤ 0) → ⊥
    neither (inl both) = omega (arith, both.0)
    neither (inr high) = omega arith
absent_said line said says (suc zero) = (λ is. inl (refl, input_side line said says is), from)
  where
    from : ((◌≡◌ {A = ℕ} 1 1) × (said.input ≡ none)) ⊎ (2 ≤ 1) → input_of said.input ≡ []
    from (inl both) = ap input_of both.1
    from (inr high) = absurd (omega arith)
absent_said line said says (suc (suc side)) = (λ is. inr (omega arith), λ or. no_side (suc (suc side)) said (omega arith))

-- "side 0 is output, 1 input, and a line with no `<` has no input side"
pub absent_side_iff : (line : List ℕ) (reading : Reading) → Reads line reading → (side : ℕ)
    → side_of side reading ≡ [] ↔ (((side ≡ 1) × (reading.input ≡ none)) ⊎ (2 ≤ side))
absent_side_iff line reading (reads {said} says bounded) side = absent_said line said says side
