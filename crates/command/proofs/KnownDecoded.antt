-- Switches written as bytes and decoded again are the same switches.
use Prim.Native.Nat.{ℕ, ◌+◌, ◌*◌, ◌/◌, ◌%◌}
use mathlib.Core.Path.{◌≡◌, refl, ap}
use mathlib.Core.List.{List, [], ◌∷◌, ◌++◌, append_assoc}
use native.Mathlib.Omega.{arith}
use lib.ListN.{length, drop}
use lib.Seq.{drop_at}
use Rattle.command_grammar.specs.Parsed.{Switch}
use Rattle.command_cursor.specs.FilledWord.{first_word, second_word}
use Rattle.command_switches.specs.Encoded.{value_words, all_switch_words, encoded}
use Rattle.command_switches.proofs.EncodedLength.{values_length, bytes_length}
use Rattle.words.specs.Word.{word_at, word_bytes}
use Rattle.command.specs.Known.{decoded_values, decoded, value_numbers, switch_numbers}

pub bytes_append : (a b : List ℕ) → word_bytes (a ++ b) ≡ word_bytes a ++ word_bytes b
unfolding word_bytes
bytes_append [] b = refl
bytes_append (word ∷ a) b = ap (λ (l : List ℕ). word % 256 ∷ (word / 256 ∷ l)) (bytes_append a b)

-- a word is its two bytes, low first
pub word_back : (word : ℕ) → word % 256 + 256 * (word / 256) ≡ word
word_back word = omega arith

values_long : (vs : List (List ℕ)) → length (word_bytes (value_words vs)) ≡ 4 * length vs
values_long vs = omega (arith, bytes_length (value_words vs), values_length vs)

values_back : (vs : List (List ℕ)) (rest : List ℕ) → decoded_values (length vs) (word_bytes (value_words vs) ++ rest) ≡ value_numbers vs
unfolding word_bytes value_words decoded_values value_numbers word_at
values_back [] rest = refl
values_back (v ∷ vs) rest = rw (word_back (first_word v), word_back (second_word v), values_back vs rest)

-- the bytes behind a switch's name
behind_name_law : (vs : List (List ℕ)) (ws : List Switch) (rest : List ℕ)
    → word_bytes (value_words vs ++ all_switch_words ws) ++ rest ≡ word_bytes (value_words vs) ++ (encoded ws ++ rest)
unfolding encoded
behind_name_law vs ws rest = rw (bytes_append (value_words vs) (all_switch_words ws), append_assoc)

values_over : (vs : List (List ℕ)) (rest : List ℕ) → drop (4 * length vs) (word_bytes (value_words vs) ++ rest) ≡ rest
values_over vs rest = drop_at (word_bytes (value_words vs)) rest (4 * length vs) (values_long vs)

-- "per switch a word with the number of values, two name words, two words per value, each word as two bytes, low first"
pub decoded_encoded : (ws : List Switch) (rest : List ℕ) → decoded (length ws) (encoded ws ++ rest) ≡ switch_numbers ws
unfolding encoded all_switch_words word_bytes decoded switch_numbers word_at
decoded_encoded [] rest = refl
decoded_encoded (w ∷ ws) rest =
    rw (
      word_back (length w.values),
      word_back (first_word w.name),
      word_back (second_word w.name),
      behind_name_law w.values ws rest,
      values_back w.values (encoded ws ++ rest),
      values_over w.values (encoded ws ++ rest),
      decoded_encoded ws rest,
    )
