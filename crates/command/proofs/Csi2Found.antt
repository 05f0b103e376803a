-- What CSI2 answers by what is found at the place: nothing, as in a side that is absent, or a specification, with room and with 384 bytes of it.
use Prim.Native.Nat.{ℕ, ◌≤◌, ◌<◌}
use mathlib.Core.Path.{◌≡◌, refl, ap, ◌∙◌}
use mathlib.Core.List.{List, [], ◌++◌}
use mathlib.Core.Option.{none, some}
use native.Mathlib.Decide.{dec_lt}
use native.Mathlib.Omega.{arith}
use lib.ListN.{length, drop}
use Rattle.command_grammar.specs.Parsed.{Specification}
use Rattle.command_grammar.specs.Reading.{Reading, Reads, side_of, specification_at}
use Rattle.command_parts.specs.Numbers.{numbers_of}
use Rattle.command_switches.specs.Encoded.{encoded}
use Rattle.command_switches.proofs.EncodedRoom.{switches_within}
use Rattle.command.specs.Condensed.{line_limit}
use Rattle.command.specs.Csi2.{refusal, asking_answer, FoundAt, Csi2Answered}
use Rattle.command.specs.Csi2 as Two
use Rattle.command.specs.declared.csi2.SpecificationAnswer.{SpecificationAnswer}
use Rattle.command.specs.Asking as A
use Rattle.command.proofs.Csi2Only.{csi2_answered_one}

module _ (line : List ℕ) (fits : length line ≤ line_limit) (side k : ℕ) (buffer : List ℕ) (answer : SpecificationAnswer) (after : List ℕ)
    (is : Csi2Answered line side k buffer answer after) where
  pub answers_missing : FoundAt line side k none → (answer ≡ refusal 0o51 0) × (after ≡ buffer)
  answers_missing found = csi2_answered_one line side k buffer answer (refusal 0o51 0) after buffer is (Two.Csi2Answered.answered (Two.Csi2.missing fits found))

  pub answers_given : (v : Specification) → FoundAt line side k (some v) → (answer.code ≡ 0o52 → ⊥)
      → (answer ≡ asking_answer (A.Given (numbers_of v))) × (after ≡ encoded v.switches ++ drop (length (encoded v.switches)) buffer)
  answers_given v found not_IsShort = by (dec_lt (length buffer) (length (encoded v.switches)))
    where
      by : Dec (length buffer < length (encoded v.switches))
          → (answer ≡ asking_answer (A.Given (numbers_of v))) × (after ≡ encoded v.switches ++ drop (length (encoded v.switches)) buffer)
      by (yes few) =
          absurd (not_IsShort (ap (λ (a : SpecificationAnswer). a.code) (csi2_answered_one line side k buffer answer (refusal 0o52 0) after buffer is
          (Two.Csi2Answered.answered (Two.Csi2.short fits found few))).0))
      by (no enough) =
          csi2_answered_one line side k buffer answer (asking_answer (A.Given (numbers_of v))) after
          (encoded v.switches ++ drop (length (encoded v.switches)) buffer) is
          (Two.Csi2Answered.answered (Two.Csi2.given fits found (omega arith)))

nothing_at : (k : ℕ) → specification_at k [] ≡ none
unfolding specification_at
nothing_at k = refl

-- a side that is absent answers 51 at every k
pub csi2_absent : (line : List ℕ) (reading : Reading) → length line ≤ line_limit → Reads line reading → (side : ℕ) → side_of side reading ≡ []
    → (k : ℕ) (buffer : List ℕ) (answer : SpecificationAnswer) (after : List ℕ) → Csi2Answered line side k buffer answer after
    → (answer ≡ refusal 0o51 0) × (after ≡ buffer)
csi2_absent line reading fits read side absent k buffer answer after is =
    answers_missing line fits side k buffer answer after is (record { reading = reading; reads = read; there = ap (specification_at k) absent ∙ nothing_at k })

-- a buffer of 384 bytes is never too short
pub csi2_room : (line : List ℕ) (side k : ℕ) (buffer : List ℕ) (answer : SpecificationAnswer) (after : List ℕ)
    → Csi2Answered line side k buffer answer after → 384 ≤ length buffer → answer.code ≡ 0o52 → ⊥
csi2_room line side k buffer answer after (Two.Csi2Answered.answered (Two.Csi2.long over)) room code = omega arith
csi2_room line side k buffer answer after (Two.Csi2Answered.answered (Two.Csi2.wrong fits placed)) room code = omega arith
csi2_room line side k buffer answer after (Two.Csi2Answered.answered (Two.Csi2.large fits over)) room code = omega arith
csi2_room line side k buffer answer after (Two.Csi2Answered.answered (Two.Csi2.missing fits found)) room code = omega arith
csi2_room line side k buffer answer after (Two.Csi2Answered.answered (Two.Csi2.short fits {v} found few)) room code =
    omega (arith, switches_within line found.reading found.reads side k v found.there)
csi2_room line side k buffer answer after (Two.Csi2Answered.answered (Two.Csi2.given fits found enough)) room code = omega arith
