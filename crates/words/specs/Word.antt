-- "A word is 16 bits, low byte first": word i of a list of bytes stands at bytes 2i and 2i + 1.
-- Bytes behind the end read as 0 and are not written; the code asks that there are none such.
use Rattle.std.specs.Prelude.{ℕ, ◌+◌, ◌*◌, ◌/◌, ◌%◌, List, [], ◌∷◌, ◌++◌, get_or, set}

unfoldable pub word_at : List ℕ → ℕ → ℕ
word_at bytes i = get_or bytes (2 * i) 0 + 256 * get_or bytes (2 * i + 1) 0

-- the bytes with `word`, below 65536, as word i
unfoldable pub set_word : List ℕ → ℕ → ℕ → List ℕ
set_word bytes i word = set (set bytes (2 * i) (word % 256)) (2 * i + 1) (word / 256)

-- a word as its two bytes
abbrev pub bytes_of : ℕ → List ℕ
bytes_of word = word % 256 ∷ (word / 256 ∷ [])

-- words as bytes, one behind the other
unfoldable pub word_bytes : List ℕ → List ℕ
word_bytes [] = []
word_bytes (word ∷ words) = bytes_of word ++ word_bytes words
