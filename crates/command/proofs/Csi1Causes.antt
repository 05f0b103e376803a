-- Each code in exactly its case.
use Prim.Native.Nat.{ℕ, ◌≤◌}
use mathlib.Core.Path.{◌≡◌, refl}
use mathlib.Core.Logic.{◌⊎◌, inl, inr, ◌↔◌}
use mathlib.Core.List.{List}
use native.Mathlib.Omega.{arith}
use lib.ListN.{length}
use Rattle.answers.specs.declared.Answer.{Answer}
use Rattle.command_grammar.specs.Reading.{Reading, Reads, OverBound}
use Rattle.command_grammar.specs.LinePlace.{LinePlace}
use Rattle.command.specs.Condensed.{condensed, TooLong}
use Rattle.command.specs.Csi1.{Csi1Answered}
use Rattle.command.specs.Csi1 as One
use Rattle.command_grammar.proofs.LinePlace.{not_read}
use Rattle.command_grammar.proofs.GrammarOne.{over_not_read, over_right}

-- "Demand 3 accepts exactly the lines of the grammar whose numbers keep these bounds": for any line within the length limits, with room lent for the
-- result, with blanks and fill characters removed
pub csi1_accepted_iff : (line buffer : List ℕ) (answer : Answer) (after : List ℕ) → (TooLong line → ⊥) → length (condensed line) ≤ length buffer
    → Csi1Answered line buffer answer after → (answer.code ≡ 0) ↔ ((reading : Reading) × Reads (condensed line) reading)
csi1_accepted_iff line buffer answer after fits room (One.Csi1Answered.answered (One.Csi1.long over)) = absurd (fits over)
csi1_accepted_iff line buffer answer after fits room (One.Csi1Answered.answered (One.Csi1.short fits' few)) = absurd (omega arith)
csi1_accepted_iff line buffer answer after fits room (One.Csi1Answered.answered (One.Csi1.wrong fits' room' {place} placed)) =
    (λ code. absurd (omega arith), λ has. absurd (not_read (condensed line) place has.0 placed has.1))
csi1_accepted_iff line buffer answer after fits room (One.Csi1Answered.answered (One.Csi1.large fits' room' over)) =
    (λ code. absurd (omega arith), λ has. absurd (over_not_read (condensed line) has.0 over has.1))
csi1_accepted_iff line buffer answer after fits room (One.Csi1Answered.answered (One.Csi1.accepted fits' room' {reading} read)) =
    (λ code. (reading, read), λ any. refl)

-- "54, a number over its bound"
pub csi1_large_iff : (line buffer : List ℕ) (answer : Answer) (after : List ℕ) → (TooLong line → ⊥) → length (condensed line) ≤ length buffer
    → Csi1Answered line buffer answer after → (answer.code ≡ 0o54) ↔ OverBound (condensed line)
csi1_large_iff line buffer answer after fits room (One.Csi1Answered.answered (One.Csi1.long over)) = absurd (fits over)
csi1_large_iff line buffer answer after fits room (One.Csi1Answered.answered (One.Csi1.short fits' few)) = absurd (omega arith)
csi1_large_iff line buffer answer after fits room (One.Csi1Answered.answered (One.Csi1.wrong fits' room' placed)) =
    (λ code. absurd (omega arith), λ over. absurd (over_right (condensed line) over placed.wrong))
csi1_large_iff line buffer answer after fits room (One.Csi1Answered.answered (One.Csi1.large fits' room' over)) = (λ code. over, λ any. refl)
csi1_large_iff line buffer answer after fits room (One.Csi1Answered.answered (One.Csi1.accepted fits' room' {reading} read)) =
    (λ code. absurd (omega arith), λ over. absurd (over_not_read (condensed line) reading over read))

-- a line refused with 50 "is answered with the place", and no other
pub csi1_refused_iff : (line buffer : List ℕ) (answer : Answer) (after : List ℕ) → (TooLong line → ⊥) → length (condensed line) ≤ length buffer
    → Csi1Answered line buffer answer after → (answer.code ≡ 0o50) ↔ LinePlace (condensed line) answer.number
csi1_refused_iff line buffer answer after fits room (One.Csi1Answered.answered (One.Csi1.long over)) = absurd (fits over)
csi1_refused_iff line buffer answer after fits room (One.Csi1Answered.answered (One.Csi1.short fits' few)) = absurd (omega arith)
csi1_refused_iff line buffer answer after fits room (One.Csi1Answered.answered (One.Csi1.wrong fits' room' placed)) = (λ code. placed, λ any. refl)
csi1_refused_iff line buffer answer after fits room (One.Csi1Answered.answered (One.Csi1.large fits' room' over)) =
    (λ code. absurd (omega arith), λ placed. absurd (over_right (condensed line) over placed.wrong))
csi1_refused_iff line buffer answer after fits room (One.Csi1Answered.answered (One.Csi1.accepted fits' room' {reading} read)) =
    (λ code. absurd (omega arith), λ placed. absurd (not_read (condensed line) (length (condensed line)) reading placed read))

-- within the limits and with room lent one of the three is answered
pub csi1_judged : (line buffer : List ℕ) (answer : Answer) (after : List ℕ) → (TooLong line → ⊥) → length (condensed line) ≤ length buffer
    → Csi1Answered line buffer answer after → (answer.code ≡ 0) ⊎ ((answer.code ≡ 0o54) ⊎ (answer.code ≡ 0o50))
csi1_judged line buffer answer after fits room (One.Csi1Answered.answered (One.Csi1.long over)) = absurd (fits over)
csi1_judged line buffer answer after fits room (One.Csi1Answered.answered (One.Csi1.short fits' few)) = absurd (omega arith)
csi1_judged line buffer answer after fits room (One.Csi1Answered.answered (One.Csi1.wrong fits' room' placed)) = inr (inr refl)
csi1_judged line buffer answer after fits room (One.Csi1Answered.answered (One.Csi1.large fits' room' over)) = inr (inl refl)
csi1_judged line buffer answer after fits room (One.Csi1Answered.answered (One.Csi1.accepted fits' room' read)) = inl refl
