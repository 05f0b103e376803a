-- What the grammar and the bounds promise: a line says at most one thing and has at most one reading; any other line has a number over its bound,
-- or a place.
use Prim.Native.Nat.{ℕ}
use mathlib.Core.Path.{◌≡◌, subst}
use mathlib.Core.Logic.{◌⊎◌, inl, inr, ◌↔◌}
use mathlib.Core.List.{List}
use Rattle.command_grammar.specs.Parsed.{Parsed}
use Rattle.command_grammar.specs.Grammar.{Command}
use Rattle.command_grammar.specs.Bounded.{Bounded}
use Rattle.command_grammar.specs.Reading.{Reading, Reads, reads, OverBound, exceeds}
use Rattle.command_grammar.specs.LinePlace.{Wrong, LinePlace}
use Rattle.command_grammar.proofs.ReaderLines.{one_saying, read_or_placed}
use Rattle.command_grammar.proofs.Keeps.{bounded_or_not}

-- "No line has two readings": nor does it say two things
pub says_one : (line : List ℕ) (a b : Parsed) → Command line a → Command line b → a ≡ b
says_one = one_saying

pub reads_one : (line : List ℕ) (a b : Reading) → Reads line a → Reads line b → a ≡ b
reads_one line a b (reads says bounded) (reads tells bounded') = one_saying line a b says tells

-- a line has a reading exactly when the grammar writes it and its numbers keep the bounds
pub reads_iff : (line : List ℕ) → ((reading : Reading) × Reads line reading) ↔ ((said : Parsed) × Command line said × Bounded said)
reads_iff line = (λ has. says line has.0 has.1, λ has. (has.0, reads has.1 has.2))
  where
    says : (line : List ℕ) (reading : Reading) → Reads line reading → (said : Parsed) × Command line said × Bounded said
    says line reading (reads {said} x bounded) = (said, x, bounded)

-- a number is over its bound exactly when the grammar writes the line and it has no reading
pub over_iff : (line : List ℕ) → OverBound line ↔ (((said : Parsed) × Command line said) × ((reading : Reading) → Reads line reading → ⊥))
over_iff line = (one line, other)
  where
    read : (line : List ℕ) (said reading : Parsed) → Command line said → (Bounded said → ⊥) → Reads line reading → ⊥
    read line said reading x not (reads y bounded) = not (subst Bounded (one_saying line reading said y x) bounded)

    one : (line : List ℕ) → OverBound line → ((said : Parsed) × Command line said) × ((reading : Reading) → Reads line reading → ⊥)
    one line (exceeds {said} x not) = ((said, x), λ reading has. read line said reading x not has)

    other : ((said : Parsed) × Command line said) × ((reading : Reading) → Reads line reading → ⊥) → OverBound line
    other has = exceeds has.0.1 (λ bounded. has.1 has.0.0 (reads has.0.1 bounded))

pub over_not_read : (line : List ℕ) (reading : Reading) → OverBound line → Reads line reading → ⊥
over_not_read line reading large read = ((over_iff line).0 large).1 reading read

pub over_right : (line : List ℕ) → OverBound line → Wrong line → ⊥
unfolding Wrong
over_right line (exceeds {said} says not) wrong = wrong said says

-- any line has a reading, or a number over its bound, or a place
pub read_large_or_placed : (line : List ℕ) → ((reading : Reading) × Reads line reading) ⊎ (OverBound line ⊎ ((p : ℕ) × LinePlace line p))
read_large_or_placed line = by (read_or_placed line)
  where
    judged : (said : Parsed) → Command line said → Bounded said ⊎ (Bounded said → ⊥) → ((reading : Reading) × Reads line reading) ⊎ (OverBound line ⊎ ((p : ℕ) × LinePlace line p))
    judged said says (inl bounded) = inl (said, reads says bounded)
    judged said says (inr not) = inr (inl (exceeds says not))

    by : ((said : Parsed) × Command line said) ⊎ ((p : ℕ) × LinePlace line p) → ((reading : Reading) × Reads line reading) ⊎ (OverBound line ⊎ ((p : ℕ) × LinePlace line p))
    by (inl says) = judged says.0 says.1 (bounded_or_not says.0)
    by (inr at) = inr (inr at)
