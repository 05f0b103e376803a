-- Writing a command line has one answer, and leaves one buffer; two inputs that are written and differ give different lines.
use Prim.Native.Nat.{ℕ, ◌≤◌, ◌<◌}
use mathlib.Core.Path.{◌≡◌, refl, sym, ap, ◌∙◌}
use mathlib.Core.List.{List, ◌++◌}
use native.Mathlib.Omega.{arith}
use lib.ListN.{length, take, drop}
use lib.Seq.{take-append_seam}
use Rattle.answers.specs.declared.Answer.{Answer}
use Rattle.answers.proofs.RefusalsLadder.{Ladder, here, behind, End, end_single, ladder_single}
use Rattle.command_grammar.specs.Reading.{Reading}
use Rattle.command.specs.Condensed.{line_limit}
use Rattle.command_writing.proofs.Records.{given_single, given_apart}
use Rattle.command_writing.specs.WrittenLine.{written}
use Rattle.command_writing.specs.Records.{Given}
use Rattle.command_writing.specs.CsiWrite.{writing_answer, CsiWrite, CsiWriteAnswered}
use Rattle.command_writing.specs.CsiWrite as W
use Rattle.command_writing.specs.Writing.{Writing}
use Rattle.command_writing.specs.Writing as A

module _ {outputs inputs : ℕ} {records : List ℕ} where
  -- the line that is given is one
  pub given_long : {r q : Reading} → Given outputs inputs records r → Given outputs inputs records q → length (written r) ≡ length (written q)
  given_long given given' = ap (λ (x : Reading). length (written x)) (given_single given given')

  pub within_limit : {r q : Reading} → Given outputs inputs records r → length (written r) ≤ line_limit → Given outputs inputs records q
      → line_limit < length (written q) → ⊥
  within_limit given few given' over = omega (arith, few, over, given_long given given')

  pub within_room : {r q : Reading} {room : ℕ} → Given outputs inputs records r → length (written r) ≤ room → Given outputs inputs records q
      → room < length (written q) → ⊥
  within_room given fits given' few = omega (arith, fits, few, given_long given given')

-- what is answered and left where there is room
abbrev line_given : List ℕ → Reading → Writing × List ℕ
line_given buffer reading = (A.Written (length (written reading)), written reading ++ drop (length (written reading)) buffer)

module _ (outputs inputs : ℕ) (records buffer : List ℕ) where
  -- its cases, each with what it answers and leaves
  abbrev CsiWriteLadder : Writing × List ℕ → Type 0
  CsiWriteLadder =
      Ladder {When = (reading : Reading) → Given outputs inputs records reading → ⊥} (λ none. (A.NoReading, buffer))
      (Ladder {When = (reading : Reading) × Given outputs inputs records reading × line_limit < length (written reading)} (λ over. (A.TooLong, buffer))
      (Ladder {When = (reading : Reading) × Given outputs inputs records reading × length buffer < length (written reading)} (λ few. (A.NoRoom, buffer))
      (Ladder {When = (reading : Reading) × Given outputs inputs records reading} (λ given. line_given buffer given.0)
      End)))

  csi_write_ladder : (writing : Writing) (after : List ℕ) → CsiWrite outputs inputs records buffer writing after → CsiWriteLadder (writing, after)
  csi_write_ladder writing after (W.CsiWrite.unread none) = here none
  csi_write_ladder writing after (W.CsiWrite.long {reading} given over) = behind (λ none. none reading given) (here (reading, given, over))
  csi_write_ladder writing after (W.CsiWrite.short {reading} given few short) =
      behind (λ none. none reading given) (behind (λ long. within_limit given few long.1 long.2) (here (reading, given, short)))
  csi_write_ladder writing after (W.CsiWrite.line {reading} given few room) =
      behind (λ none. none reading given) (behind (λ long. within_limit given few long.1 long.2)
      (behind (λ short. within_room given room short.1 short.2) (here (reading, given))))

  -- "the stated result and final buffers are the only ones possible for given inputs, refusal or not"
  pub csi_write_one : (a b : Writing) (after after' : List ℕ) → CsiWrite outputs inputs records buffer a after
      → CsiWrite outputs inputs records buffer b after' → (a ≡ b) × (after ≡ after')
  csi_write_one a b after after' x y =
      let same = ladder_single (λ p q. refl) (ladder_single (λ p q. refl) (ladder_single (λ p q. refl)
      (ladder_single (λ p q. ap (line_given buffer) (given_single p.1 q.1)) end_single)))
      (a, after) (b, after') (csi_write_ladder a after x) (csi_write_ladder b after' y) in
      (ap (λ r. r.0) same, ap (λ r. r.1) same)

  pub csi_write_answered_one : (a b : Answer) (after after' : List ℕ) → CsiWriteAnswered outputs inputs records buffer a after
      → CsiWriteAnswered outputs inputs records buffer b after' → (a ≡ b) × (after ≡ after')
  csi_write_answered_one a b after after' (W.CsiWriteAnswered.answered {writing} x) (W.CsiWriteAnswered.answered {writing = other} y) =
      let same = csi_write_one writing other after after' x y in
      (ap writing_answer same.0, same.1)

-- what was written: the answer has code 0, and so many bytes of the buffer are the line of the reading that was given

pub record Wrote (outputs inputs : ℕ) (records : List ℕ) (number : ℕ) (line : List ℕ) : Type 0 where
  pub reading : Reading
  pub given : Given outputs inputs records reading
  pub same : line ≡ written reading
  pub long : number ≡ length line
  pub few : number ≤ line_limit

pub csi_write_wrote : (outputs inputs : ℕ) (records buffer : List ℕ) (answer : Answer) (after : List ℕ)
    → CsiWriteAnswered outputs inputs records buffer answer after → answer.code ≡ 0 → Wrote outputs inputs records answer.number (take answer.number after)
csi_write_wrote outputs inputs records buffer answer after (W.CsiWriteAnswered.answered (W.CsiWrite.unread none)) code = absurd (omega arith)
csi_write_wrote outputs inputs records buffer answer after (W.CsiWriteAnswered.answered (W.CsiWrite.long given over)) code = absurd (omega arith)
csi_write_wrote outputs inputs records buffer answer after (W.CsiWriteAnswered.answered (W.CsiWrite.short given few short)) code = absurd (omega arith)
csi_write_wrote outputs inputs records buffer answer after (W.CsiWriteAnswered.answered (W.CsiWrite.line {reading} given few room)) code =
    let is = take-append_seam (written reading) (drop (length (written reading)) buffer) in
    record { reading = reading; given = given; same = is; long = sym (ap (λ (l : List ℕ). length l) is); few = few }

-- "writing a reading twice gives the same bytes": whatever the buffers
pub csi_write_twice : {outputs inputs : ℕ} {records buffer buffer' : List ℕ} {answer answer' : Answer} {after after' : List ℕ}
    → CsiWriteAnswered outputs inputs records buffer answer after → answer.code ≡ 0
    → CsiWriteAnswered outputs inputs records buffer' answer' after' → answer'.code ≡ 0
    → take answer.number after ≡ take answer'.number after'
csi_write_twice {outputs} {inputs} {records} {buffer} {buffer'} {answer} {answer'} {after} {after'} is code is' code' =
    let one = csi_write_wrote outputs inputs records buffer answer after is code in
    let other = csi_write_wrote outputs inputs records buffer' answer' after' is' code' in
    one.same ∙ ap written (given_single one.given other.given) ∙ sym other.same

-- two inputs that are both written and differ give different lines
pub written_apart : {outputs outputs' inputs inputs' : ℕ} {records records' buffer buffer' : List ℕ} {answer answer' : Answer} {after after' : List ℕ}
    → CsiWriteAnswered outputs inputs records buffer answer after → answer.code ≡ 0
    → CsiWriteAnswered outputs' inputs' records' buffer' answer' after' → answer'.code ≡ 0
    → take answer.number after ≡ take answer'.number after' → (outputs ≡ outputs') × (inputs ≡ inputs') × (records ≡ records')
written_apart {outputs} {outputs'} {inputs} {inputs'} {records} {records'} {buffer} {buffer'} {answer} {answer'} {after} {after'} is code is' code' same =
    let one = csi_write_wrote outputs inputs records buffer answer after is code in
    let other = csi_write_wrote outputs' inputs' records' buffer' answer' after' is' code' in
    given_apart one.given other.given (sym one.same ∙ same ∙ other.same)
