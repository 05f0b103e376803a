-- The writing of a command line gives each code exactly in its case.
use Prim.Native.Nat.{ℕ}
use mathlib.Core.Path.{◌≡◌}
use mathlib.Core.Logic.{◌↔◌}
use mathlib.Core.List.{List}
use Rattle.answers.specs.declared.Answer.{Answer}
use Rattle.command_writing.specs.Writing.{Writing}
use Rattle.command_writing.specs.CsiWrite.{writing_answer, CsiWrite, CsiWriteAnswered}
use Rattle.command_writing.specs.CsiWrite as W
use Rattle.command_writing.proofs.CsiWriteOnly.{within_limit, within_room}
use Rattle.promises.specs.GivenWhen.{GivesCode, success, here, behind}
use Rattle.promises.specs.WritingCodes.{NoReading, LineOver, LineShort, CsiWriteCases}
use Rattle.promises.proofs.GivenWhen.{exactly}

module _ (outputs inputs : ℕ) (records buffer : List ℕ) where
  csi_write_code : (writing : Writing) (after : List ℕ) → CsiWrite outputs inputs records buffer writing after
      → GivesCode (CsiWriteCases outputs inputs records buffer) (writing_answer writing).code
  csi_write_code writing after (W.CsiWrite.unread none) = here none
  csi_write_code writing after (W.CsiWrite.long {reading} given over) =
      let long : LineOver outputs inputs records = (reading, given, over) in
      behind (λ (none : NoReading outputs inputs records). none reading given) (here long)
  csi_write_code writing after (W.CsiWrite.short {reading} given few short) =
      let little : LineShort outputs inputs records buffer = (reading, given, short) in
      behind (λ (none : NoReading outputs inputs records). none reading given)
      (behind (λ (long : LineOver outputs inputs records). within_limit given few long.1 long.2) (here little))
  csi_write_code writing after (W.CsiWrite.line {reading} given few room) =
      behind (λ (none : NoReading outputs inputs records). none reading given)
      (behind (λ (long : LineOver outputs inputs records). within_limit given few long.1 long.2)
      (behind (λ (short : LineShort outputs inputs records buffer). within_room given room short.1 short.2) success))

  csi_write_answered_code : (answer : Answer) (after : List ℕ) → CsiWriteAnswered outputs inputs records buffer answer after
      → GivesCode (CsiWriteCases outputs inputs records buffer) answer.code
  csi_write_answered_code answer after (W.CsiWriteAnswered.answered {writing} is) = csi_write_code writing after is

  -- 1.2 for the writing of a command line
  pub csi_write_code_iff : (answer : Answer) (after : List ℕ) → CsiWriteAnswered outputs inputs records buffer answer after
      → (code : ℕ) → answer.code ≡ code ↔ GivesCode (CsiWriteCases outputs inputs records buffer) code
  csi_write_code_iff answer after is = exactly (CsiWriteCases outputs inputs records buffer) (csi_write_answered_code answer after is)
