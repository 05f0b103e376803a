-- How many words and bytes the switches of a specification take.
use Prim.Native.Nat.{ℕ, ◌+◌, ◌*◌}
use mathlib.Core.Path.{◌≡◌, refl}
use mathlib.Core.List.{List, [], ◌∷◌}
use native.Mathlib.Omega.{arith}
use lib.ListN.{length, length-append}
use Rattle.words.specs.Word.{word_bytes}
use Rattle.command_grammar.specs.Parsed.{Switch}
use Rattle.command_grammar.specs.Reader.{values_in}
use Rattle.command_switches.specs.Encoded.{value_words, switch_words, all_switch_words, encoded}

pub values_length : (vs : List (List ℕ)) → length (value_words vs) ≡ 2 * length vs
unfolding value_words
values_length [] = refl
values_length (v ∷ vs) = omega (arith, values_length vs)

pub switch_length : (w : Switch) → length (switch_words w) ≡ 3 + 2 * length w.values
switch_length w = omega (arith, values_length w.values)

pub words_length : (ws : List Switch) → length (all_switch_words ws) ≡ 3 * length ws + 2 * values_in ws
unfolding all_switch_words values_in
words_length [] = refl
words_length (w ∷ ws) = omega (arith, length-append (switch_words w) (all_switch_words ws), switch_length w, words_length ws)

pub bytes_length : (words : List ℕ) → length (word_bytes words) ≡ 2 * length words
unfolding word_bytes
bytes_length [] = refl
bytes_length (word ∷ words) = omega (arith, bytes_length words)

-- the room that the bytes of switches take
pub encoded_length : (ws : List Switch) → length (encoded ws) ≡ 6 * length ws + 4 * values_in ws
unfolding encoded
encoded_length ws = omega (arith, bytes_length (all_switch_words ws), words_length ws)
