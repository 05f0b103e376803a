-- What the demands ask of command lines, each in a line that cites its proof.
use Prim.Native.Nat.{ℕ, ◌≤◌}
use mathlib.Core.Path.{◌≡◌}
use mathlib.Core.Logic.{◌⊎◌, ◌↔◌}
use mathlib.Core.List.{List}
use lib.ListN.{length, take}
use Rattle.answers.specs.declared.Answer.{Answer}
use Rattle.command_grammar.specs.Parsed.{Parsed}
use Rattle.command_grammar.specs.Grammar.{Command}
use Rattle.command_grammar.specs.Bounded.{Bounded}
use Rattle.command_grammar.specs.Reading.{Reading, Reads, OverBound, side_of}
use Rattle.command_grammar.specs.LinePlace.{Viable, LinePlace}
use Rattle.command_grammar.proofs.GrammarOne.{reads_one, reads_iff, over_iff}
use Rattle.command_grammar.proofs.LinePlace.{place_one, viable_iff, end_iff}
use Rattle.command.specs.Condensed.{condensed, TooLong}
use Rattle.command.specs.Csi1.{Csi1Answered}
use Rattle.command.specs.Csi2.{Csi2Answered}
use Rattle.command.specs.declared.csi2.SpecificationAnswer.{SpecificationAnswer}
use Rattle.command.specs.Known.{Known, known_of, AskedFrom}
use Rattle.command.proofs.Csi1Only.{csi1_answered_one}
use Rattle.command.proofs.Csi2Only.{csi2_answered_one}
use Rattle.command.proofs.Csi1Causes.{csi1_accepted_iff, csi1_large_iff, csi1_refused_iff, csi1_judged}
use Rattle.command.proofs.Csi1Then.{csi1_then_side}

-- 3.1 "For any command line within the length limits, with room lent for the result, the line is accepted exactly when the grammar writes it
-- with blanks and fill characters removed", and "Demand 3 accepts exactly the lines of the grammar whose numbers keep these bounds"
pub line_accepted : (line buffer : List ℕ) (answer : Answer) (after : List ℕ) → (TooLong line → ⊥) → length (condensed line) ≤ length buffer
    → Csi1Answered line buffer answer after → answer.code ≡ 0 ↔ ((reading : Reading) × Reads (condensed line) reading)
line_accepted = csi1_accepted_iff

-- it has a reading exactly when the grammar writes it and its numbers keep the bounds
pub line_written : (line : List ℕ) → ((reading : Reading) × Reads line reading) ↔ ((said : Parsed) × Command line said × Bounded said)
line_written = reads_iff

-- "54, a number over its bound"
pub line_large : (line buffer : List ℕ) (answer : Answer) (after : List ℕ) → (TooLong line → ⊥) → length (condensed line) ≤ length buffer
    → Csi1Answered line buffer answer after → answer.code ≡ 0o54 ↔ OverBound (condensed line)
line_large = csi1_large_iff

-- that is a line which the grammar writes and which has no reading
pub large_unread : (line : List ℕ) → OverBound line ↔ (((said : Parsed) × Command line said) × ((reading : Reading) → Reads line reading → ⊥))
large_unread = over_iff

-- it is accepted, or refused with 54 or with 50: one of the three always, and being three numbers only one
pub line_judged : (line buffer : List ℕ) (answer : Answer) (after : List ℕ) → (TooLong line → ⊥) → length (condensed line) ≤ length buffer
    → Csi1Answered line buffer answer after → (answer.code ≡ 0) ⊎ ((answer.code ≡ 0o54) ⊎ (answer.code ≡ 0o50))
line_judged = csi1_judged

-- 3.2 "No line has two readings."
pub line_reading : (line : List ℕ) (a b : Reading) → Reads line a → Reads line b → a ≡ b
line_reading = reads_one

-- 3.3 "Asking for each side's specifications by place yields that reading, all of it and no more."
-- From what CSI1 wrote: with 384 bytes for each answer the asking ends, and what is then known, with whatever buffers it ends, is this.
pub line_asked : (line buffer : List ℕ) (answer : Answer) (after : List ℕ) → Csi1Answered line buffer answer after → answer.code ≡ 0
    → (reading : Reading) × Reads (condensed line) reading
    × ((side : ℕ) (lent : ℕ → List ℕ) → ((k : ℕ) → 384 ≤ length (lent k)) → AskedFrom (take answer.number after) side lent 0 (known_of (side_of side reading)))
    × ((side : ℕ) (lent : ℕ → List ℕ) (known : List Known) → AskedFrom (take answer.number after) side lent 0 known → known ≡ known_of (side_of side reading))
line_asked = csi1_then_side

-- 3.4 "A refused line is answered with the place, in what remains, of the first character with which no command could go on, or with its end if
-- it only stops too soon": with 50, for "the place is still that of document 01 and is given with 50 only".
pub line_refused : (line buffer : List ℕ) (answer : Answer) (after : List ℕ) → (TooLong line → ⊥) → length (condensed line) ≤ length buffer
    → Csi1Answered line buffer answer after → answer.code ≡ 0o50 ↔ LinePlace (condensed line) answer.number
line_refused = csi1_refused_iff

pub place_single : (line : List ℕ) (p q : ℕ) → LinePlace line p → LinePlace line q → p ≡ q
place_single = place_one

pub place_viable : (line : List ℕ) (p : ℕ) → LinePlace line p → (count : ℕ) → count ≤ length line → Viable (take count line) ↔ count ≤ p
place_viable = viable_iff

pub place_end : (line : List ℕ) (p : ℕ) → LinePlace line p → p ≡ length line ↔ Viable line
place_end = end_iff

-- for given inputs one answer and one final buffer
pub csi1_single : (line buffer : List ℕ) (a b : Answer) (after after' : List ℕ) → Csi1Answered line buffer a after → Csi1Answered line buffer b after'
    → (a ≡ b) × (after ≡ after')
csi1_single = csi1_answered_one

pub csi2_single : (line : List ℕ) (side k : ℕ) (buffer : List ℕ) (a b : SpecificationAnswer) (after after' : List ℕ)
    → Csi2Answered line side k buffer a after → Csi2Answered line side k buffer b after' → (a ≡ b) × (after ≡ after')
csi2_single = csi2_answered_one
