-- From what a walk over the records says to what is answered.
use Prim.Native.Nat.{ℕ, ◌*◌, ◌≤◌, ◌<◌}
use mathlib.Core.Path.{◌≡◌, refl, sym, ap, ◌∙◌}
use mathlib.Core.List.{List, [], ◌++◌, append-nil}
use native.Mathlib.Omega.{arith}
use lib.ListN.{length, get_or, take, drop, replicate, length-drop, drop_of_length-le}
use Rattle.words.specs.Word.{word_bytes}
use Rattle.command_switches.proofs.EncodedLength.{bytes_length}
use Rattle.command.specs.Condensed.{line_limit}
use Rattle.command_grammar.specs.Reading.{Reading}
use Rattle.command_writing.specs.WrittenLine.{written}
use Rattle.command_writing.specs.Records.{Given}
use Rattle.command_writing.specs.CsiWrite.{CsiWrite}
use Rattle.command_writing.specs.CsiWrite as C
use Rattle.command_writing.specs.Sayable.{SayableReading}
use Rattle.command_writing.specs.Standing.{words_in, reading_words, Taken, Never}
use Rattle.command_writing.specs.LaidText.{Laid, within}
use Rattle.command_writing.specs.declared.Walk.{Walk}
use Rattle.command_writing.specs.Writing as W
use Rattle.command_writing.proofs.LaidPieces.{laid_within, laid_over_law}
use Rattle.command_writing.proofs.LaidMany.{Went}
use Rattle.command_writing.proofs.WordsIn.{words_long, words_again, bytes_again, reading_bytes}
use Rattle.command_writing.proofs.SayableLines.{given_said, said_line, said_long}

module _ {outputs inputs : ℕ} {records : List ℕ} where
  -- the records of a reading are its words
  given_bytes : {reading : Reading} → Given outputs inputs records reading → word_bytes (reading_words reading) ≡ records
  given_bytes {reading} given = sym (reading_bytes reading) ∙ given.gives.bytes

  -- they are the bytes of their own words
  pub given_again : {reading : Reading} → Given outputs inputs records reading → word_bytes (words_in records) ≡ records
  given_again {reading} given = ap (λ (b : List ℕ). word_bytes (words_in b)) (sym (given_bytes given)) ∙ ap word_bytes (words_again (reading_words reading)) ∙ given_bytes given

  given_stands : {reading : Reading} → Given outputs inputs records reading → drop 0 (words_in records) ≡ reading_words reading ++ []
  given_stands {reading} given = ap words_in (sym (given_bytes given)) ∙ words_again (reading_words reading) ∙ sym (append-nil (reading_words reading))

  pub never_given : Never (SayableReading outputs inputs) reading_words (words_in records) 0 → (reading : Reading) → Given outputs inputs records reading → ⊥
  never_given nothing reading given = nothing.never reading [] (given_said given) (given_stands given)

  module _ {reading : Reading} {end : ℕ} (taken : Taken (SayableReading outputs inputs) reading_words (words_in records) 0 reading end) where
    -- bytes are left over
    pub other_given : (2 * end ≡ length records → ⊥) → (other : Reading) → Given outputs inputs records other → ⊥
    other_given uneven other given =
        let none_left : [] ≡ drop end (words_in records) = taken.only other [] (given_said given) (given_stands given) in
        uneven (omega (
          arith,
          ap length none_left,
          length-drop end (words_in records),
          taken.within,
          words_long records,
          bytes_length (reading_words other),
          ap length (given_bytes given),
        ))

    -- nothing is left, and the words have these bytes
    pub is_given_words : word_bytes (words_in records) ≡ records → 2 * end ≡ length records → Given outputs inputs records reading
    is_given_words bytes even =
        let line = said_line taken.says in
        let long = said_long taken.says in
        let all : length (words_in records) ≤ end = omega (arith, words_long records) in
        let none_left : drop end (words_in records) ≡ [] = drop_of_length-le (words_in records) all in
        let whole : words_in records ≡ reading_words reading =
        taken.stands ∙ ap (λ (l : List ℕ). reading_words reading ++ l) none_left ∙ append-nil (reading_words reading) in
        record {
          line = line.0;
          reads = line.1;
          gives =
              record {
                output = long.0;
                input = long.1;
                bytes = reading_bytes reading ∙ ap word_bytes (sym whole) ∙ bytes;
              };
        }

    is_given : ((k : ℕ) → get_or records k 0 < 256) → 2 * end ≡ length records → Given outputs inputs records reading
    is_given small even = is_given_words (bytes_again records small (omega (arith, words_long records))) even

-- the answer to what the walk said
module _ (outputs inputs : ℕ) (records buffer : List ℕ) where
  pub answer_unread : Never (SayableReading outputs inputs) reading_words (words_in records) 0 → CsiWrite outputs inputs records buffer W.NoReading buffer
  answer_unread nothing = C.CsiWrite.unread (never_given nothing)

  module _ {line : List ℕ} {end : Walk} (went : Went (SayableReading outputs inputs) reading_words written (words_in records) 0 (replicate 128 0) 0 end line) where
    pub answer_left : (2 * end.at ≡ length records → ⊥) → CsiWrite outputs inputs records buffer W.NoReading buffer
    answer_left uneven = C.CsiWrite.unread (other_given went.taken uneven)

    text_laid : Laid line end.count (written went.what)
    text_laid = went.laid.puts [] (within (omega arith) refl)

    module _ (small : (k : ℕ) → get_or records k 0 < 256) (even : 2 * end.at ≡ length records) (whole : length line ≡ 128) where
      pub answer_long : line_limit < end.count → CsiWrite outputs inputs records buffer W.TooLong buffer
      answer_long over = C.CsiWrite.long (is_given went.taken small even) (omega (arith, laid_over_law text_laid (omega arith)))

      module _ (fits : end.count ≤ line_limit) where
        line_is : (take end.count line ≡ written went.what) × (length (written went.what) ≡ end.count)
        line_is = laid_within text_laid (omega arith)

        pub answer_short : length buffer < end.count → CsiWrite outputs inputs records buffer W.NoRoom buffer
        answer_short few = C.CsiWrite.short (is_given went.taken small even) (omega (arith, line_is.1)) (omega (arith, line_is.1))

        pub answer_line : {part : List ℕ} → end.count ≤ length buffer → part ≡ take end.count line
            → CsiWrite outputs inputs records buffer (W.Written end.count) (part ++ drop end.count buffer)
        answer_line room filled =
            let answer : CsiWrite outputs inputs records buffer (W.Written (length (written went.what))) (written went.what ++ drop (length (written went.what)) buffer) =
            C.CsiWrite.line (is_given went.taken small even) (omega (arith, line_is.1)) (omega (arith, line_is.1)) in
            rw (filled, line_is.0) (rw line_is.1 at answer)
