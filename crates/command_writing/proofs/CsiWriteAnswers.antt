-- Writing a command line has an answer to every input: whether some reading gives these records is decided, and every case of the contract is met.
use Prim.Native.Nat.{ℕ, ◌*◌, ◌<◌}
use mathlib.Core.Path.{◌≡◌}
use mathlib.Core.List.{List, List-discrete}
use native.Mathlib.Decide.{ℕ_discrete, dec_lt}
use native.Mathlib.Omega.{arith}
use lib.ListN.{length}
use Rattle.words.specs.Word.{word_bytes}
use Rattle.answers.specs.declared.Answer.{Answer}
use Rattle.command_grammar.specs.Reading.{Reading}
use Rattle.command.specs.Condensed.{line_limit}
use Rattle.command_writing.specs.WrittenLine.{written}
use Rattle.command_writing.specs.Records.{Given}
use Rattle.command_writing.specs.CsiWrite.{CsiWriteAnswered}
use Rattle.command_writing.specs.CsiWrite as W
use Rattle.command_writing.specs.Sayable.{SayableReading}
use Rattle.command_writing.specs.Standing.{words_in, reading_words}
use Rattle.command_writing.proofs.StandingSought.{Sought, found, nothing, reading_sought}
use Rattle.command_writing.proofs.WritingAnswered.{given_again, never_given, other_given, is_given_words}

-- "a record that no reading gives": whether one does is decided, for any numbers whatever. Numbers that are not the bytes of their own words are no records.
pub given_decided : (outputs inputs : ℕ) (records : List ℕ) → Dec ((reading : Reading) × Given outputs inputs records reading)
given_decided outputs inputs records =
    by (List-discrete ℕ_discrete (word_bytes (words_in records)) records) (reading_sought (words_in records) outputs inputs 0 (omega arith))
  where
    by : Dec (word_bytes (words_in records) ≡ records) → Sought (SayableReading outputs inputs) reading_words (words_in records) 0
        → Dec ((reading : Reading) × Given outputs inputs records reading)
    by (no other) sought = no (λ given. other (given_again given.1))
    by (yes bytes) (nothing none) = no (λ given. never_given none given.0 given.1)
    by (yes bytes) (found {v = reading} {end} taken) = onward (ℕ_discrete (2 * end) (length records))
      where
        onward : Dec (2 * end ≡ length records) → Dec ((reading : Reading) × Given outputs inputs records reading)
        onward (yes even) = yes (reading, is_given_words taken bytes even)
        onward (no left) = no (λ given. other_given taken left given.0 given.1)

-- every input is answered, so that no promise of what is answered is empty
module _ (outputs inputs : ℕ) (records buffer : List ℕ) where
  of_given : (reading : Reading) → Given outputs inputs records reading
      → (answer : Answer) × (after : List ℕ) × CsiWriteAnswered outputs inputs records buffer answer after
  of_given reading given = by (dec_lt line_limit (length (written reading))) (dec_lt (length buffer) (length (written reading)))
    where
      by : Dec (line_limit < length (written reading)) → Dec (length buffer < length (written reading))
          → (answer : Answer) × (after : List ℕ) × CsiWriteAnswered outputs inputs records buffer answer after
      by (yes over) few = (_, _, W.CsiWriteAnswered.answered (W.CsiWrite.long given over))
      by (no fits) (yes few) = (_, _, W.CsiWriteAnswered.answered (W.CsiWrite.short given (omega arith) few))
      by (no fits) (no room) = (_, _, W.CsiWriteAnswered.answered (W.CsiWrite.line given (omega arith) (omega arith)))

  pub csi_write_answers : (answer : Answer) × (after : List ℕ) × CsiWriteAnswered outputs inputs records buffer answer after
  csi_write_answers = by (given_decided outputs inputs records)
    where
      by : Dec ((reading : Reading) × Given outputs inputs records reading)
          → (answer : Answer) × (after : List ℕ) × CsiWriteAnswered outputs inputs records buffer answer after
      by (yes given) = of_given given.0 given.1
      by (no none) = (_, _, W.CsiWriteAnswered.answered (W.CsiWrite.unread (λ reading given. none (reading, given))))
