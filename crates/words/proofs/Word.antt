-- What is known of words read and set: the same word, another word, the length, the bound. All else cites these and never opens a word.
use Prim.Native.Nat.{ℕ, ◌+◌, ◌*◌, ◌/◌, ◌%◌, ◌<◌}
use mathlib.Core.Path.{◌≡◌, ◌∙◌}
use mathlib.Core.List.{List}
use native.Mathlib.Omega.{arith}
use lib.ListN.{length, get_or, set, length-set}
use lib.Seq.{get_or-set_same, get_or-set_other}
use Rattle.words.specs.Word.{word_at, set_word}

pub length_set_word : (bytes : List ℕ) (i word : ℕ) → length (set_word bytes i word) ≡ length bytes
unfolding set_word
length_set_word bytes i word = simp length-set

-- a word of bytes is below 65536
pub word_bound : (bytes : List ℕ) (i : ℕ) → ((k : ℕ) → get_or bytes k 0 < 256) → word_at bytes i < 65536
unfolding word_at
word_bound bytes i bound = omega (arith, bound (2 * i), bound (2 * i + 1))

pub word_set_same : (bytes : List ℕ) (i word : ℕ) → 2 * i + 1 < length bytes → word_at (set_word bytes i word) i ≡ word
unfolding word_at set_word
word_set_same bytes i word inside =
    let low : get_or (set (set bytes (2 * i) (word % 256)) (2 * i + 1) (word / 256)) (2 * i) 0 ≡ word % 256 =
    get_or-set_other (set bytes (2 * i) (word % 256)) (2 * i + 1) (2 * i) (word / 256) 0 (omega arith) ∙ get_or-set_same bytes (2 * i) (word % 256) 0 (omega arith) in
    let high : get_or (set (set bytes (2 * i) (word % 256)) (2 * i + 1) (word / 256)) (2 * i + 1) 0 ≡ word / 256 =
    get_or-set_same (set bytes (2 * i) (word % 256)) (2 * i + 1) (word / 256) 0 (simp length-set (omega arith)) in
    omega (arith, low, high)

pub word_set_other : (bytes : List ℕ) (i j word : ℕ) → (j ≡ i → ⊥) → word_at (set_word bytes i word) j ≡ word_at bytes j
unfolding word_at set_word
word_set_other bytes i j word other =
    let low : get_or (set (set bytes (2 * i) (word % 256)) (2 * i + 1) (word / 256)) (2 * j) 0 ≡ get_or bytes (2 * j) 0 =
    get_or-set_other (set bytes (2 * i) (word % 256)) (2 * i + 1) (2 * j) (word / 256) 0 (omega arith) ∙ get_or-set_other bytes (2 * i) (2 * j) (word % 256) 0 (omega (arith, other)) in
    let high : get_or (set (set bytes (2 * i) (word % 256)) (2 * i + 1) (word / 256)) (2 * j + 1) 0 ≡ get_or bytes (2 * j + 1) 0 =
    get_or-set_other (set bytes (2 * i) (word % 256)) (2 * i + 1) (2 * j + 1) (word / 256) 0 (omega (arith, other)) ∙ get_or-set_other bytes (2 * i) (2 * j + 1) (word % 256) 0 (omega arith) in
    omega (arith, low, high)

-- a byte outside the word stays
pub byte_set_other : (bytes : List ℕ) (i word k : ℕ) → (k ≡ 2 * i → ⊥) → (k ≡ 2 * i + 1 → ⊥) → get_or (set_word bytes i word) k 0 ≡ get_or bytes k 0
unfolding set_word
byte_set_other bytes i word k low high =
    get_or-set_other (set bytes (2 * i) (word % 256)) (2 * i + 1) k (word / 256) 0 high ∙ get_or-set_other bytes (2 * i) k (word % 256) 0 low
