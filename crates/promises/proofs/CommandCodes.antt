-- CSI1 and CSI2 give each code exactly in its case, and a refusal leaves the buffer.
use Prim.Native.Nat.{ℕ, ◌≤◌}
use mathlib.Core.Path.{◌≡◌, refl}
use mathlib.Core.Logic.{◌↔◌}
use mathlib.Core.List.{List}
use native.Mathlib.Nat.{not-le_of_lt}
use native.Mathlib.Omega.{arith}
use lib.ListN.{length}
use Rattle.answers.specs.declared.Answer.{Answer}
use Rattle.command_grammar.specs.Reading.{OverBound}
use Rattle.command_grammar.specs.LinePlace.{LinePlace}
use Rattle.command_grammar.proofs.GrammarOne.{over_not_read, over_right}
use Rattle.command_grammar.proofs.LinePlace.{read_right}
use Rattle.command.specs.Condensing.{Condensing}
use Rattle.command.specs.Asking.{Asking}
use Rattle.command.specs.declared.csi2.SpecificationAnswer.{SpecificationAnswer}
use Rattle.command.specs.Condensed.{condensed, line_limit}
use Rattle.command.specs.Csi1.{condensing_answer, Csi1, Csi1Answered}
use Rattle.command.specs.Csi1 as First
use Rattle.command.specs.Csi2.{refusal, asking_answer, Csi2, Csi2Answered}
use Rattle.command.specs.Csi2 as Second
use Rattle.command.proofs.Csi2Only.{found_some, found_bounded, found_fits}
use Rattle.promises.specs.GivenWhen.{GivesCode, success, here, behind}
use Rattle.promises.specs.CommandCodes.{Csi1Cases, ShortFor, Csi2Cases}
use Rattle.promises.proofs.GivenWhen.{exactly}

csi1_code : (line buffer : List ℕ) (answer : Condensing) (after : List ℕ) → Csi1 line buffer answer after → GivesCode (Csi1Cases line buffer) (condensing_answer answer).code
csi1_code line buffer answer after (First.Csi1.long over) = here over
csi1_code line buffer answer after (First.Csi1.short fits few) = behind fits (here few)
csi1_code line buffer answer after (First.Csi1.wrong fits room at) = behind fits (behind (λ few. not-le_of_lt few room) (here at.wrong))
csi1_code line buffer answer after (First.Csi1.large fits room over) =
    behind fits (behind (λ few. not-le_of_lt few room) (behind (over_right (condensed line) over) (here over)))
csi1_code line buffer answer after (First.Csi1.accepted fits room {reading} read) =
    behind fits (behind (λ few. not-le_of_lt few room) (behind (read_right (condensed line) reading read)
    (behind (λ (over : OverBound (condensed line)). over_not_read (condensed line) reading over read) success)))

csi1_answered_code : (line buffer : List ℕ) (answer : Answer) (after : List ℕ) → Csi1Answered line buffer answer after → GivesCode (Csi1Cases line buffer) answer.code
csi1_answered_code line buffer answer after (First.Csi1Answered.answered {answer = x} is) = csi1_code line buffer x after is

-- 1.2 for CSI1
pub csi1_code_iff : (line buffer : List ℕ) (answer : Answer) (after : List ℕ) → Csi1Answered line buffer answer after
    → (code : ℕ) → answer.code ≡ code ↔ GivesCode (Csi1Cases line buffer) code
csi1_code_iff line buffer answer after is = exactly (Csi1Cases line buffer) (csi1_answered_code line buffer answer after is)

-- 1.3 for CSI1: "any other number in the answer 0 (but for the place with 50)"
pub csi1_kept : (line buffer : List ℕ) (answer : Answer) (after : List ℕ) → Csi1Answered line buffer answer after → (answer.code ≡ 0 → ⊥)
    → (after ≡ buffer) × ((answer.code ≡ 0o50 → ⊥) → answer.number ≡ 0)
csi1_kept line buffer answer after (First.Csi1Answered.answered (First.Csi1.long over)) refused = (refl, λ other. refl)
csi1_kept line buffer answer after (First.Csi1Answered.answered (First.Csi1.short fits few)) refused = (refl, λ other. refl)
csi1_kept line buffer answer after (First.Csi1Answered.answered (First.Csi1.wrong fits room at)) refused = (refl, λ other. absurd (other refl))
csi1_kept line buffer answer after (First.Csi1Answered.answered (First.Csi1.large fits room over)) refused = (refl, λ other. refl)
csi1_kept line buffer answer after (First.Csi1Answered.answered (First.Csi1.accepted fits room read)) refused = absurd (refused refl)

module _ (line : List ℕ) (side k : ℕ) (buffer : List ℕ) where
  csi2_code : (answer : Asking) (after : List ℕ) → Csi2 line side k buffer answer after → GivesCode (Csi2Cases line side k buffer) (asking_answer answer).code
  csi2_code answer after (Second.Csi2.long over) = here over
  csi2_code answer after (Second.Csi2.wrong fits at) = behind (λ over. not-le_of_lt over fits) (here at.wrong)
  csi2_code answer after (Second.Csi2.large fits over) = behind (λ over. not-le_of_lt over fits) (behind (over_right line over) (here over))
  csi2_code answer after (Second.Csi2.missing fits found) =
      behind (λ over. not-le_of_lt over fits) (behind (read_right line found.reading found.reads) (behind (found_bounded found) (here found)))
  csi2_code answer after (Second.Csi2.short fits {v} found few) =
      let short : ShortFor line side k buffer = (v, found, few) in
      behind (λ over. not-le_of_lt over fits) (behind (read_right line found.reading found.reads) (behind (found_bounded found)
      (behind (found_some found) (here short))))
  csi2_code answer after (Second.Csi2.given fits found room) =
      behind (λ over. not-le_of_lt over fits) (behind (read_right line found.reading found.reads) (behind (found_bounded found)
      (behind (found_some found) (behind (λ (other : ShortFor line side k buffer). found_fits found room other.1 other.2) success))))

  csi2_answered_code : (answer : SpecificationAnswer) (after : List ℕ) → Csi2Answered line side k buffer answer after → GivesCode (Csi2Cases line side k buffer) answer.code
  csi2_answered_code answer after (Second.Csi2Answered.answered {answer = x} is) = csi2_code x after is

  -- 1.2 for CSI2
  pub csi2_code_iff : (answer : SpecificationAnswer) (after : List ℕ) → Csi2Answered line side k buffer answer after
      → (code : ℕ) → answer.code ≡ code ↔ GivesCode (Csi2Cases line side k buffer) code
  csi2_code_iff answer after is = exactly (Csi2Cases line side k buffer) (csi2_answered_code answer after is)

  -- 1.3 for CSI2
  pub csi2_kept : (answer : SpecificationAnswer) (after : List ℕ) → Csi2Answered line side k buffer answer after → (answer.code ≡ 0 → ⊥)
      → (after ≡ buffer) × (answer ≡ refusal answer.code answer.place) × ((answer.code ≡ 0o50 → ⊥) → answer.place ≡ 0)
  csi2_kept answer after (Second.Csi2Answered.answered (Second.Csi2.long over)) refused = (refl, refl, λ other. refl)
  csi2_kept answer after (Second.Csi2Answered.answered (Second.Csi2.wrong fits at)) refused = (refl, refl, λ other. absurd (other refl))
  csi2_kept answer after (Second.Csi2Answered.answered (Second.Csi2.large fits over)) refused = (refl, refl, λ other. refl)
  csi2_kept answer after (Second.Csi2Answered.answered (Second.Csi2.missing fits found)) refused = (refl, refl, λ other. refl)
  csi2_kept answer after (Second.Csi2Answered.answered (Second.Csi2.short fits found few)) refused = (refl, refl, λ other. refl)
  csi2_kept answer after (Second.Csi2Answered.answered (Second.Csi2.given fits found room)) refused = absurd (refused refl)

  -- 3.4 for CSI2
  pub csi2_place : (answer : SpecificationAnswer) (after : List ℕ) → Csi2Answered line side k buffer answer after → answer.code ≡ 0o50 → LinePlace line answer.place
  csi2_place answer after (Second.Csi2Answered.answered (Second.Csi2.long over)) code = absurd (omega arith)
  csi2_place answer after (Second.Csi2Answered.answered (Second.Csi2.wrong fits at)) code = at
  csi2_place answer after (Second.Csi2Answered.answered (Second.Csi2.large fits over)) code = absurd (omega arith)
  csi2_place answer after (Second.Csi2Answered.answered (Second.Csi2.missing fits found)) code = absurd (omega arith)
  csi2_place answer after (Second.Csi2Answered.answered (Second.Csi2.short fits found few)) code = absurd (omega arith)
  csi2_place answer after (Second.Csi2Answered.answered (Second.Csi2.given fits found room)) code = absurd (omega arith)

  -- 54 for CSI2: of the whole line, whatever side and place are asked for, and however short the buffer is
  pub csi2_large_iff : (answer : SpecificationAnswer) (after : List ℕ) → length line ≤ line_limit → Csi2Answered line side k buffer answer after
      → (answer.code ≡ 0o54) ↔ OverBound line
  csi2_large_iff answer after fits (Second.Csi2Answered.answered (Second.Csi2.long over)) = absurd (not-le_of_lt over fits)
  csi2_large_iff answer after fits (Second.Csi2Answered.answered (Second.Csi2.wrong fits' at)) =
      (λ code. absurd (omega arith), λ over. absurd (over_right line over at.wrong))
  csi2_large_iff answer after fits (Second.Csi2Answered.answered (Second.Csi2.large fits' over)) = (λ code. over, λ any. refl)
  csi2_large_iff answer after fits (Second.Csi2Answered.answered (Second.Csi2.missing fits' found)) = (λ code. absurd (omega arith), λ over. absurd (found_bounded found over))
  csi2_large_iff answer after fits (Second.Csi2Answered.answered (Second.Csi2.short fits' found few)) = (λ code. absurd (omega arith), λ over. absurd (found_bounded found over))
  csi2_large_iff answer after fits (Second.Csi2Answered.answered (Second.Csi2.given fits' found room)) = (λ code. absurd (omega arith), λ over. absurd (found_bounded found over))
