-- Words set one after another: in two runs, the first last, and from the start of a buffer.
use Prim.Native.Nat.{ℕ, suc, ◌+◌, ◌*◌, ◌/◌, ◌%◌, ◌≤◌, ◌<◌}
use mathlib.Core.Path.{◌≡◌, refl, ap, ◌∙◌}
use mathlib.Core.List.{List, [], ◌∷◌, ◌++◌}
use native.Mathlib.Nat.{add-zero, zero-add}
use native.Mathlib.Omega.{arith}
use lib.ListN.{length, drop, set}
use lib.Seq.{sets, sets-eq, set_comm}
use Rattle.words.specs.Word.{set_word, word_bytes}
use Rattle.command_switches.specs.SwitchesWritten.{set_words}

pub set_append : (xs ys bytes : List ℕ) (i : ℕ) → set_words bytes i (xs ++ ys) ≡ set_words (set_words bytes i xs) (i + length xs) ys
unfolding set_words
set_append [] ys bytes i = rw add-zero
set_append (x ∷ xs) ys bytes i =
    let on : i + 1 + length xs ≡ i + suc (length xs) = omega arith in
    set_append xs ys (set_word bytes i x) (i + 1) ∙ rw on

-- a byte and a word, two words: in either order
byte_swapped : (bytes : List ℕ) (k j a b : ℕ) → (2 * j ≡ k → ⊥) → (2 * j + 1 ≡ k → ⊥) → set (set_word bytes j b) k a ≡ set_word (set bytes k a) j b
unfolding set_word
byte_swapped bytes k j a b low high =
    set_comm (set bytes (2 * j) (b % 256)) (2 * j + 1) k (b / 256) a high
    ∙ ap (λ (l : List ℕ). set l (2 * j + 1) (b / 256)) (set_comm bytes (2 * j) k (b % 256) a low)

swapped : (bytes : List ℕ) (i j a b : ℕ) → i < j → set_word (set_word bytes j b) i a ≡ set_word (set_word bytes i a) j b
unfolding set_word
swapped bytes i j a b less =
    ap (λ (l : List ℕ). set l (2 * i + 1) (a / 256)) (byte_swapped bytes (2 * i) j (a % 256) b (omega arith) (omega arith))
    ∙ byte_swapped (set bytes (2 * i) (a % 256)) (2 * i + 1) j (a / 256) b (omega arith) (omega arith)

set_before : (words bytes : List ℕ) (i j word : ℕ) → i < j → set_word (set_words bytes j words) i word ≡ set_words (set_word bytes i word) j words
unfolding set_words
set_before [] bytes i j word less = refl
set_before (x ∷ xs) bytes i j word less =
    set_before xs (set_word bytes j x) i (j + 1) word (omega arith) ∙ ap (λ (l : List ℕ). set_words l (j + 1) xs) (swapped bytes i j word x less)

-- the first word set last
pub set_first : (words bytes : List ℕ) (i word : ℕ) → set_word (set_words bytes (i + 1) words) i word ≡ set_words bytes i (word ∷ words)
unfolding set_words
set_first words bytes i word = set_before words bytes i (i + 1) word (omega arith)

stored : (words bytes : List ℕ) (i : ℕ) → set_words bytes i words ≡ sets bytes (2 * i) (word_bytes words)
unfolding set_words set_word word_bytes
stored [] bytes i = refl
stored (word ∷ words) bytes i =
    let next : 2 * i + 1 ≡ suc (2 * i) = omega arith in
    let behind : 2 * (i + 1) ≡ suc (suc (2 * i)) = omega arith in
    stored words (set (set bytes (2 * i) (word % 256)) (2 * i + 1) (word / 256)) (i + 1) ∙ rw (behind, next)

-- "The bytes behind stay."
pub from_start : (words bytes : List ℕ) → length (word_bytes words) ≤ length bytes
    → set_words bytes 0 words ≡ word_bytes words ++ drop (length (word_bytes words)) bytes
from_start words bytes room = stored words bytes 0 ∙ sets-eq (word_bytes words) bytes 0 (omega arith) ∙ rw zero-add
