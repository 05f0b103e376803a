-- Each code in exactly its case; a refusal leaves the buffer and has no other number.
use Prim.Native.Nat.{ℕ, ◌≤◌, ◌<◌}
use mathlib.Core.Path.{◌≡◌, refl}
use mathlib.Core.Logic.{◌↔◌}
use mathlib.Core.List.{List}
use native.Mathlib.Omega.{arith}
use lib.ListN.{length}
use Rattle.answers.specs.declared.Answer.{Answer}
use Rattle.command_grammar.specs.Reading.{Reading}
use Rattle.command.specs.Condensed.{line_limit}
use Rattle.command_writing.specs.WrittenLine.{written}
use Rattle.command_writing.specs.Records.{Given}
use Rattle.command_writing.specs.CsiWrite.{CsiWriteAnswered}
use Rattle.command_writing.specs.CsiWrite as W
use Rattle.command_writing.proofs.CsiWriteOnly.{within_limit, within_room}

module _ (outputs inputs : ℕ) (records buffer : List ℕ) where
  -- "41, a record that no reading gives, lengths aside"
  pub csi_write_unread_iff : (answer : Answer) (after : List ℕ) → CsiWriteAnswered outputs inputs records buffer answer after
      → (answer.code ≡ 0o41) ↔ ((reading : Reading) → Given outputs inputs records reading → ⊥)
  csi_write_unread_iff answer after (W.CsiWriteAnswered.answered (W.CsiWrite.unread none)) = (λ code. none, λ any. refl)
  csi_write_unread_iff answer after (W.CsiWriteAnswered.answered (W.CsiWrite.long {reading} given over)) = (λ code. absurd (omega arith), λ none. absurd (none reading given))
  csi_write_unread_iff answer after (W.CsiWriteAnswered.answered (W.CsiWrite.short {reading} given few short)) = (λ code. absurd (omega arith), λ none. absurd (none reading given))
  csi_write_unread_iff answer after (W.CsiWriteAnswered.answered (W.CsiWrite.line {reading} given few room)) = (λ code. absurd (omega arith), λ none. absurd (none reading given))

  -- "53, line over its limit"
  pub csi_write_long_iff : (answer : Answer) (after : List ℕ) → CsiWriteAnswered outputs inputs records buffer answer after
      → (answer.code ≡ 0o53) ↔ ((reading : Reading) × Given outputs inputs records reading × line_limit < length (written reading))
  csi_write_long_iff answer after (W.CsiWriteAnswered.answered (W.CsiWrite.unread none)) = (λ code. absurd (omega arith), λ has. absurd (none has.0 has.1))
  csi_write_long_iff answer after (W.CsiWriteAnswered.answered (W.CsiWrite.long {reading} given over)) = (λ code. (reading, given, over), λ any. refl)
  csi_write_long_iff answer after (W.CsiWriteAnswered.answered (W.CsiWrite.short given few short)) =
      (λ code. absurd (omega arith), λ has. absurd (within_limit given few has.1 has.2))
  csi_write_long_iff answer after (W.CsiWriteAnswered.answered (W.CsiWrite.line given few room)) =
      (λ code. absurd (omega arith), λ has. absurd (within_limit given few has.1 has.2))

  -- "52, buffer too short"
  pub csi_write_short_iff : (answer : Answer) (after : List ℕ) → CsiWriteAnswered outputs inputs records buffer answer after
      → (answer.code ≡ 0o52)
      ↔ ((reading : Reading) × Given outputs inputs records reading × length (written reading) ≤ line_limit × length buffer < length (written reading))
  csi_write_short_iff answer after (W.CsiWriteAnswered.answered (W.CsiWrite.unread none)) = (λ code. absurd (omega arith), λ has. absurd (none has.0 has.1))
  csi_write_short_iff answer after (W.CsiWriteAnswered.answered (W.CsiWrite.long given over)) =
      (λ code. absurd (omega arith), λ has. absurd (within_limit has.1 has.2 given over))
  csi_write_short_iff answer after (W.CsiWriteAnswered.answered (W.CsiWrite.short {reading} given few short)) = (λ code. (reading, given, few, short), λ any. refl)
  csi_write_short_iff answer after (W.CsiWriteAnswered.answered (W.CsiWrite.line given few room)) =
      (λ code. absurd (omega arith), λ has. absurd (within_room given room has.1 has.3))

  -- "write the line"
  pub csi_write_written_iff : (answer : Answer) (after : List ℕ) → CsiWriteAnswered outputs inputs records buffer answer after
      → (answer.code ≡ 0)
      ↔ ((reading : Reading) × Given outputs inputs records reading × length (written reading) ≤ line_limit × length (written reading) ≤ length buffer)
  csi_write_written_iff answer after (W.CsiWriteAnswered.answered (W.CsiWrite.unread none)) = (λ code. absurd (omega arith), λ has. absurd (none has.0 has.1))
  csi_write_written_iff answer after (W.CsiWriteAnswered.answered (W.CsiWrite.long given over)) =
      (λ code. absurd (omega arith), λ has. absurd (within_limit has.1 has.2 given over))
  csi_write_written_iff answer after (W.CsiWriteAnswered.answered (W.CsiWrite.short given few short)) =
      (λ code. absurd (omega arith), λ has. absurd (within_room has.1 has.3 given short))
  csi_write_written_iff answer after (W.CsiWriteAnswered.answered (W.CsiWrite.line {reading} given few room)) = (λ code. (reading, given, few, room), λ any. refl)

  -- "a refusal leaves all", and any other number in the answer is 0
  pub csi_write_kept : (answer : Answer) (after : List ℕ) → CsiWriteAnswered outputs inputs records buffer answer after
      → (answer.code ≡ 0 → ⊥) → (after ≡ buffer) × (answer.number ≡ 0)
  csi_write_kept answer after (W.CsiWriteAnswered.answered (W.CsiWrite.unread none)) refused = (refl, refl)
  csi_write_kept answer after (W.CsiWriteAnswered.answered (W.CsiWrite.long given over)) refused = (refl, refl)
  csi_write_kept answer after (W.CsiWriteAnswered.answered (W.CsiWrite.short given few short)) refused = (refl, refl)
  csi_write_kept answer after (W.CsiWriteAnswered.answered (W.CsiWrite.line given few room)) refused = absurd (refused refl)
