-- Bytes as words: each word of the list, their number, and there and back.
use Prim.Native.Nat.{ℕ, zero, suc, ◌+◌, ◌*◌, ◌/◌, ◌%◌, ◌≤◌, ◌<◌}
use mathlib.Core.Path.{◌≡◌, refl, sym, ap, ap₂, ◌∙◌}
use mathlib.Core.List.{List, [], ◌∷◌, ◌++◌}
use native.Mathlib.Omega.{arith}
use lib.ListN.{length, get_or}
use Rattle.words.specs.Word.{word_at, word_bytes}
use Rattle.words.proofs.WordSlices.{word_behind}
use Rattle.command.proofs.KnownDecoded.{bytes_append, word_back}
use Rattle.command_grammar.specs.Parsed.{Specification}
use Rattle.command_grammar.specs.Reading.{input_of, Reading}
use Rattle.command_parts.specs.Numbers.{numbers_of}
use Rattle.command_switches.specs.Encoded.{all_switch_words, encoded}
use Rattle.command_writing.specs.Records.{record_words, record_of, records_of}
use Rattle.command_writing.specs.Standing.{words_in, Room, joined, specification_words, reading_words}

pub words_long : (bytes : List ℕ) → length (words_in bytes) ≡ length bytes / 2
unfolding words_in
words_long [] = refl
words_long (low ∷ []) = refl
words_long (low ∷ (high ∷ bytes)) = omega (arith, words_long bytes)

next_word : (low high : ℕ) (bytes : List ℕ) (i : ℕ) → word_at (low ∷ (high ∷ bytes)) (suc i) ≡ word_at bytes i
next_word low high bytes i =
    let one : suc i ≡ 1 + i = omega arith in
    ap (word_at (low ∷ (high ∷ bytes))) one ∙ word_behind (low ∷ (high ∷ [])) bytes 1 i refl

pub word_in : (bytes : List ℕ) (i : ℕ) → i < length (words_in bytes) → word_at bytes i ≡ get_or (words_in bytes) i 0
unfolding words_in word_at
word_in [] i inside = absurd (omega arith)
word_in (low ∷ []) i inside = absurd (omega arith)
word_in (low ∷ (high ∷ bytes)) zero inside = refl
word_in (low ∷ (high ∷ bytes)) (suc i) inside = next_word low high bytes i ∙ word_in bytes i (omega arith)

pub words_again : (words : List ℕ) → words_in (word_bytes words) ≡ words
unfolding words_in word_bytes
words_again [] = refl
words_again (word ∷ words) = ap₂ ◌∷◌ (word_back word) (words_again words)

-- bytes below 256, an even number of them
pub bytes_again : (bytes : List ℕ) → ((k : ℕ) → get_or bytes k 0 < 256) → length bytes ≡ 2 * length (words_in bytes) → word_bytes (words_in bytes) ≡ bytes
unfolding words_in word_bytes
bytes_again [] small even = refl
bytes_again (low ∷ []) small even = absurd (omega arith)
bytes_again (low ∷ (high ∷ bytes)) small even =
    let first : (low + 256 * high) % 256 ≡ low = omega (arith, small 0) in
    let second : (low + 256 * high) / 256 ≡ high = omega (arith, small 0) in
    ap₂ ◌∷◌ first (ap₂ ◌∷◌ second (bytes_again bytes (λ k. small (suc (suc k))) (omega arith)))

-- records are the bytes of their words
record_bytes : (v : Specification) → record_of v ≡ word_bytes (specification_words v)
unfolding record_of specification_words encoded
record_bytes v = sym (bytes_append (record_words (numbers_of v)) (all_switch_words v.switches))

records_bytes : (vs : List Specification) → records_of vs ≡ word_bytes (joined specification_words vs)
unfolding records_of joined word_bytes
records_bytes [] = refl
records_bytes (v ∷ vs) =
    ap₂ ◌++◌ (record_bytes v) (records_bytes vs) ∙ sym (bytes_append (specification_words v) (joined specification_words vs))

pub reading_bytes : (reading : Reading) → records_of reading.output ++ records_of (input_of reading.input) ≡ word_bytes (reading_words reading)
unfolding reading_words
reading_bytes reading =
    ap₂ ◌++◌ (records_bytes reading.output) (records_bytes (input_of reading.input))
    ∙ sym (bytes_append (joined specification_words reading.output) (joined specification_words (input_of reading.input)))

-- words that do not stand there do not fit
pub no_room : {bytes : List ℕ} {at many : ℕ} → (Room bytes at many → ⊥) → at + many ≤ length (words_in bytes) → ⊥
no_room {bytes} {at} {many} never fits = never (record { fits = fits; few = omega (arith, words_long bytes) })
