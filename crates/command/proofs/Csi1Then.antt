-- The two requests together: what CSI1 accepts CSI2 reads, and the specifications that it then gives are those of the line's reading.
use Prim.Native.Nat.{ℕ, ◌≤◌, ◌<◌}
use mathlib.Core.Path.{◌≡◌, refl, subst}
use mathlib.Core.Logic.{inr}
use mathlib.Core.List.{List, ◌++◌}
use native.Mathlib.Decide.{dec_lt}
use native.Mathlib.Omega.{arith}
use lib.ListN.{length, take, drop}
use lib.Seq.{take-append_seam}
use Rattle.answers.specs.declared.Answer.{Answer}
use Rattle.command_grammar.specs.Reading.{Reading, Reads, side_of}
use Rattle.command.specs.Condensed.{condensed, line_limit, TooLong}
use Rattle.command.specs.Csi1.{Csi1Answered}
use Rattle.command.specs.Csi1 as One
use Rattle.command.specs.Csi2.{Csi2Answered}
use Rattle.command.specs.Csi2 as Two
use Rattle.command.specs.Known.{Known, known_of, AskedFrom}
use Rattle.command.specs.declared.csi2.SpecificationAnswer.{SpecificationAnswer}
use Rattle.command_grammar.proofs.LinePlace.{not_read}
use Rattle.command_grammar.proofs.GrammarOne.{over_not_read}
use Rattle.command.proofs.KnownSides.{side_asked, side_asked_one}

short : (line : List ℕ) → (TooLong line → ⊥) → length (condensed line) ≤ line_limit
short line fits = by (dec_lt line_limit (length (condensed line)))
  where
    by : Dec (line_limit < length (condensed line)) → length (condensed line) ≤ line_limit
    by (yes over) = absurd (fits (inr over))
    by (no not) = omega arith

-- what CSI1 wrote is the condensed line; it is not too long for CSI2, and has a reading
pub record Accepted (line written : List ℕ) : Type 0 where
  pub same : written ≡ condensed line
  pub fits : length written ≤ line_limit
  pub reading : Reading
  pub has : Reads written reading

accepted : (line rest : List ℕ) (reading : Reading) → (TooLong line → ⊥) → Reads (condensed line) reading
    → Accepted line (take (length (condensed line)) (condensed line ++ rest))
accepted line rest reading fits read =
    rw (take-append_seam (condensed line) rest) (record { same = refl; fits = short line fits; reading = reading; has = read })

pub csi1_accepted : (line buffer : List ℕ) (answer : Answer) (after : List ℕ) → Csi1Answered line buffer answer after → answer.code ≡ 0
    → Accepted line (take answer.number after)
csi1_accepted line buffer answer after (One.Csi1Answered.answered (One.Csi1.long over)) code = absurd (omega arith)
csi1_accepted line buffer answer after (One.Csi1Answered.answered (One.Csi1.short fits few)) code = absurd (omega arith)
csi1_accepted line buffer answer after (One.Csi1Answered.answered (One.Csi1.wrong fits room placed)) code = absurd (omega arith)
csi1_accepted line buffer answer after (One.Csi1Answered.answered (One.Csi1.large fits room over)) code = absurd (omega arith)
csi1_accepted line buffer answer after (One.Csi1Answered.answered (One.Csi1.accepted fits room {reading} read)) code =
    accepted line (drop (length (condensed line)) buffer) reading fits read

-- a line that is not too long and has a reading is answered neither 53, 50 nor 54
neither : (line : List ℕ) (reading : Reading) → length line ≤ line_limit → Reads line reading → (side k : ℕ) (buffer : List ℕ) (answer : SpecificationAnswer) (after : List ℕ)
    → Csi2Answered line side k buffer answer after → (answer.code ≡ 0o53 → ⊥) × (answer.code ≡ 0o50 → ⊥) × (answer.code ≡ 0o54 → ⊥)
neither line reading fits read side k buffer answer after (Two.Csi2Answered.answered (Two.Csi2.long over)) = absurd (omega arith)
neither line reading fits read side k buffer answer after (Two.Csi2Answered.answered (Two.Csi2.wrong fits' {place} placed)) = absurd (not_read line place reading placed read)
neither line reading fits read side k buffer answer after (Two.Csi2Answered.answered (Two.Csi2.large fits' over)) = absurd (over_not_read line reading over read)
neither line reading fits read side k buffer answer after (Two.Csi2Answered.answered (Two.Csi2.missing fits' found)) = (λ code. omega arith, λ code. omega arith, λ code. omega arith)
neither line reading fits read side k buffer answer after (Two.Csi2Answered.answered (Two.Csi2.short fits' found few)) = (λ code. omega arith, λ code. omega arith, λ code. omega arith)
neither line reading fits read side k buffer answer after (Two.Csi2Answered.answered (Two.Csi2.given fits' found room)) = (λ code. omega arith, λ code. omega arith, λ code. omega arith)

-- a line which CSI1 accepts with a length is answered by CSI2, on so many bytes of the buffer, neither 53, 50 nor 54
pub csi1_then_csi2 : (line buffer : List ℕ) (answer : Answer) (after : List ℕ) → Csi1Answered line buffer answer after → answer.code ≡ 0
    → (side k : ℕ) (lent : List ℕ) (next : SpecificationAnswer) (left : List ℕ) → Csi2Answered (take answer.number after) side k lent next left
    → (next.code ≡ 0o53 → ⊥) × (next.code ≡ 0o50 → ⊥) × (next.code ≡ 0o54 → ⊥)
csi1_then_csi2 line buffer answer after is code side k lent next left is' =
    let a = csi1_accepted line buffer answer after is code in
    neither (take answer.number after) a.reading a.fits a.has side k lent next left is'

-- and asking it for each side's specifications by place yields the reading of the condensed line, all of it and no more
pub csi1_then_side : (line buffer : List ℕ) (answer : Answer) (after : List ℕ) → Csi1Answered line buffer answer after → answer.code ≡ 0
    → (reading : Reading) × Reads (condensed line) reading
    × ((side : ℕ) (lent : ℕ → List ℕ) → ((k : ℕ) → 384 ≤ length (lent k)) → AskedFrom (take answer.number after) side lent 0 (known_of (side_of side reading)))
    × ((side : ℕ) (lent : ℕ → List ℕ) (known : List Known) → AskedFrom (take answer.number after) side lent 0 known → known ≡ known_of (side_of side reading))
csi1_then_side line buffer answer after is code =
    let a = csi1_accepted line buffer answer after is code in (
      a.reading,
      subst (λ (s : List ℕ). Reads s a.reading) a.same a.has,
      side_asked (take answer.number after) a.reading a.fits a.has,
      side_asked_one (take answer.number after) a.reading a.fits a.has,
    )
