-- CSI1 has one answer, and leaves one buffer: its definition allows something for every line, and that is the only thing possible.
use Prim.Native.Nat.{ℕ, ◌<◌}
use mathlib.Core.Path.{◌≡◌, refl, ap}
use mathlib.Core.Logic.{◌⊎◌, inl, inr, ⊎_elim}
use mathlib.Core.List.{List, ◌++◌}
use native.Mathlib.Nat.{not-le_of_lt}
use native.Mathlib.Decide.{dec_lt}
use native.Mathlib.Omega.{arith}
use lib.ListN.{length, drop}
use Rattle.answers.specs.declared.Answer.{Answer}
use Rattle.answers.proofs.RefusalsLadder.{Ladder, here, behind, End, end_single, ladder_single}
use Rattle.command_grammar.specs.Reading.{Reading, Reads, OverBound}
use Rattle.command_grammar.specs.LinePlace.{LinePlace}
use Rattle.command_grammar.proofs.GrammarOne.{over_not_read, over_right, read_large_or_placed}
use Rattle.command_grammar.proofs.LinePlace.{place_one, not_read}
use Rattle.command.specs.Condensed.{condensed, raw_limit, line_limit, TooLong}
use Rattle.command.specs.Csi1.{condensing_answer, Csi1Answered}
use Rattle.command.specs.Csi1 as One
use Rattle.command.specs.Condensing as C

-- its cases, each with what it answers and leaves
abbrev Csi1Ladder : List ℕ → List ℕ → Answer × List ℕ → Type 0
Csi1Ladder line buffer =
    Ladder {When = TooLong line} (λ over. (condensing_answer C.TooLong, buffer))
    (Ladder {When = length buffer < length (condensed line)} (λ few. (condensing_answer C.NoRoom, buffer))
    (Ladder {When = (place : ℕ) × LinePlace (condensed line) place} (λ at. (condensing_answer (C.Wrong at.0), buffer))
    (Ladder {When = OverBound (condensed line)} (λ over. (condensing_answer C.TooLarge, buffer))
    (Ladder {When = Unit {0}} (λ rest. (condensing_answer (C.Accepted (length (condensed line))), condensed line ++ drop (length (condensed line)) buffer))
    End))))

csi1_ladder : (line buffer : List ℕ) (a : Answer) (after : List ℕ) → Csi1Answered line buffer a after → Csi1Ladder line buffer (a, after)
csi1_ladder line buffer a after (One.Csi1Answered.answered (One.Csi1.long over)) = here over
csi1_ladder line buffer a after (One.Csi1Answered.answered (One.Csi1.short fits few)) = behind fits (here few)
csi1_ladder line buffer a after (One.Csi1Answered.answered (One.Csi1.wrong fits room {place} at)) =
    behind fits (behind (λ few. not-le_of_lt few room) (here (place, at)))
csi1_ladder line buffer a after (One.Csi1Answered.answered (One.Csi1.large fits room over)) =
    behind fits (behind (λ few. not-le_of_lt few room) (behind (λ at. over_right _ over at.1.wrong) (here over)))
csi1_ladder line buffer a after (One.Csi1Answered.answered (One.Csi1.accepted fits room {reading} read)) =
    behind fits (behind (λ few. not-le_of_lt few room) (behind (λ at. not_read _ at.0 reading at.1 read) (behind (λ over. over_not_read _ reading over read) (here tt))))

-- "the stated result and final buffers are the only ones possible for given inputs, refusal or not"
pub csi1_answered_one : (line buffer : List ℕ) (a b : Answer) (after after' : List ℕ) → Csi1Answered line buffer a after
    → Csi1Answered line buffer b after' → (a ≡ b) × (after ≡ after')
csi1_answered_one line buffer a b after after' x y =
    let same = ladder_single (λ p q. refl) (ladder_single (λ p q. refl) (ladder_single
    (λ p q. ap (λ (place : ℕ). (condensing_answer (C.Wrong place), buffer)) (place_one _ p.0 q.0 p.1 q.1))
    (ladder_single (λ p q. refl) (ladder_single (λ p q. refl) end_single))))
    (a, after) (b, after') (csi1_ladder line buffer a after x) (csi1_ladder line buffer b after' y) in
    (ap (λ r. r.0) same, ap (λ r. r.1) same)

-- every line is answered
pub csi1_answers : (line buffer : List ℕ) → (answer : Answer) × (after : List ℕ) × Csi1Answered line buffer answer after
csi1_answers line buffer =
    by (dec_lt raw_limit (length line)) (dec_lt line_limit (length (condensed line))) (dec_lt (length buffer) (length (condensed line))) (read_large_or_placed (condensed line))
  where
    by : Dec (raw_limit < length line) → Dec (line_limit < length (condensed line)) → Dec (length buffer < length (condensed line))
        → ((reading : Reading) × Reads (condensed line) reading) ⊎ (OverBound (condensed line) ⊎ ((p : ℕ) × LinePlace (condensed line) p))
        → (answer : Answer) × (after : List ℕ) × Csi1Answered line buffer answer after
    by (yes raw) few room says = (_, _, One.Csi1Answered.answered (One.Csi1.long (inl raw)))
    by (no raw) (yes over) room says = (_, _, One.Csi1Answered.answered (One.Csi1.long (inr over)))
    by (no raw) (no over) (yes few) says = (_, _, One.Csi1Answered.answered (One.Csi1.short (⊎_elim raw over) few))
    by (no raw) (no over) (no room) (inl says) = (_, _, One.Csi1Answered.answered (One.Csi1.accepted (⊎_elim raw over) (omega arith) says.1))
    by (no raw) (no over) (no room) (inr (inl large)) = (_, _, One.Csi1Answered.answered (One.Csi1.large (⊎_elim raw over) (omega arith) large))
    by (no raw) (no over) (no room) (inr (inr at)) = (_, _, One.Csi1Answered.answered (One.Csi1.wrong (⊎_elim raw over) (omega arith) at.1))
