-- RADUP's answer, its code and its buffer, in each of its cases: another size, a word without characters, and three characters.
use Prim.Native.Nat.{ℕ}
use mathlib.Core.Path.{◌≡◌, refl, ap, ◌∙◌}
use mathlib.Core.List.{List, [], ◌∷◌}
use mathlib.Core.Option.{none, some}
use native.Mathlib.Omega.{arith}
use lib.ListN.{length, get_or, set}
use Rattle.answers.proofs.Conversion.{characters_41, characters_60, characters_given, in_parts}
use Rattle.radix.specs.Characters.{character_of}
use Rattle.radix.specs.Packing.{packed, characters_of}
use Rattle.radix.specs.Radup.{radup}
use Rattle.radix.proofs.Characters.{character_code, code_bound}
use Rattle.radix.proofs.Packing.{packed_first, packed_second, packed_third, characters_three, word_pair}

-- a buffer of three bytes, each of them set from as many
three_set : (buffer s : List ℕ) → length buffer ≡ 3 → length s ≡ 3 → set (set (set buffer 0 (get_or s 0 0)) 1 (get_or s 1 0)) 2 (get_or s 2 0) ≡ s
three_set (a ∷ (b ∷ (c ∷ []))) (x ∷ (y ∷ (z ∷ []))) same three = refl
three_set buffer [] same three = absurd (omega arith)
three_set buffer (x ∷ []) same three = absurd (omega arith)
three_set buffer (x ∷ (y ∷ [])) same three = absurd (omega arith)
three_set buffer (x ∷ (y ∷ (z ∷ (u ∷ rest)))) same three = absurd (omega arith)
three_set [] s same three = absurd (omega arith)
three_set (a ∷ []) s same three = absurd (omega arith)
three_set (a ∷ (b ∷ [])) s same three = absurd (omega arith)
three_set (a ∷ (b ∷ (c ∷ (d ∷ rest)))) s same three = absurd (omega arith)

module _ (w : ℕ) (buffer : List ℕ) where
  pub other_buffer : (length buffer ≡ 3 → ⊥) → (0o41 ≡ (radup w buffer).code) × (buffer ≡ (radup w buffer).buffer)
  unfolding radup
  other_buffer other = in_parts (characters_41 3 characters_of w buffer other)

  pub no_characters : length buffer ≡ 3 → characters_of w ≡ none → (0o60 ≡ (radup w buffer).code) × (buffer ≡ (radup w buffer).buffer)
  unfolding radup
  no_characters same is = in_parts (characters_60 3 characters_of w buffer same is)

  pub characters_written : (s : List ℕ) → length buffer ≡ 3 → characters_of w ≡ some s → (0 ≡ (radup w buffer).code)
      × (set (set (set buffer 0 (get_or s 0 0)) 1 (get_or s 1 0)) 2 (get_or s 2 0) ≡ (radup w buffer).buffer)
  unfolding radup
  characters_written s same is = rw (three_set buffer s same (word_pair.sized w s is)) (in_parts (characters_given 3 characters_of w buffer same is))

-- the word of three codes that have characters is written as these
pub codes_written : (a b c x y z : ℕ) → character_of a ≡ some x → character_of b ≡ some y → character_of c ≡ some z → (buffer : List ℕ) → length buffer ≡ 3
    → radup (packed a b c) buffer ≡ record { code = 0; buffer = x ∷ (y ∷ (z ∷ [])) }
unfolding radup
codes_written a b c x y z first second third buffer same =
    let ha = code_bound x a (character_code a x first) in
    let hb = code_bound y b (character_code b y second) in
    let hc = code_bound z c (character_code c z third) in
    characters_given 3 characters_of (packed a b c) buffer same
    (characters_three (packed a b c) x y z
    (ap character_of (packed_first a b c ha hb hc) ∙ first)
    (ap character_of (packed_second a b c ha hb hc) ∙ second)
    (ap character_of (packed_third a b c ha hb hc) ∙ third))
