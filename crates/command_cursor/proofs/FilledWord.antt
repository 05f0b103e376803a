-- The words of what stands between two places of a line: code by code, and a name in its two halves.
use Prim.Native.Nat.{ℕ, suc, zero, ◌+◌, ◌-◌, ◌≤◌, ◌<◌}
use mathlib.Core.Path.{◌≡◌, refl, sym, ap, ◌∙◌, subst}
use mathlib.Core.Bool.{Bool, true}
use mathlib.Core.List.{List, [], ◌∷◌}
use mathlib.Core.Option.{some}
use native.Mathlib.Omega.{arith}
use native.Mathlib.Decide.{dec_lt}
use native.Mathlib.Nat.{add-zero}
use borrow.Author.Tests.{lt-ltb, le-ltb}
use lib.ListN.{length, take, drop, get_or, length-drop, drop_of_length-le, get_or-eq_default}
use lib.Seq.{length-take-le, take_all, take-take, drop-drop, take-add, drop_at, drop-cons, get_or-take, get_or-drop}
use Rattle.answers.specs.Missing.{or_else}
use Rattle.radix.specs.Characters.{code_of}
use Rattle.radix.specs.Packing.{packed, word_of}
use Rattle.radix.specs.Names.{is_letter_or_digit, blank, blank_filled}
use Rattle.radix.proofs.Characters.{code_blank}
use Rattle.command_grammar.specs.Grammar.{All, nil, cons}
use Rattle.command_cursor.specs.CursorAt.{character_at}
use Rattle.command_cursor.specs.FilledWord.{filled_word, first_word, second_word}
use Rattle.command_cursor.proofs.Classes.{named_coded}

-- the code at a place
module _ (s : List ℕ) (place end : ℕ) where
  pub code_behind : end ≤ place → (0 ≡ or_else 0 (code_of (character_at s place end))) × (0 < 40)
  unfolding character_at
  code_behind h = (rw (le-ltb place end h, code_blank 32 refl), omega arith)

  pub code_here : {code : ℕ} → place < end → (code_of (get_or s place 0) ≡ some code) × (code < 40) → (code ≡ or_else 0 (code_of (character_at s place end))) × (code < 40)
  unfolding character_at
  code_here h known = (rw (lt-ltb place end h, known.0), known.1)

-- the code at a place of a name, where blanks stand behind it
abbrev code_in : List ℕ → ℕ → ℕ
code_in s k = or_else 0 (code_of (get_or s k blank))

word_packed : (s : List ℕ) → length s ≤ 3 → All is_letter_or_digit s → word_of (blank_filled 3 s) ≡ some (packed (code_in s 0) (code_in s 1) (code_in s 2))
unfolding word_of
word_packed [] few nil = rw (code_blank 32 refl)
word_packed (x ∷ []) few (cons p nil) = rw ((named_coded x p).is, code_blank 32 refl)
word_packed (x ∷ (y ∷ [])) few (cons p (cons q nil)) = rw ((named_coded x p).is, (named_coded y q).is, code_blank 32 refl)
word_packed (x ∷ (y ∷ (z ∷ []))) few (cons p (cons q (cons r nil))) = rw ((named_coded x p).is, (named_coded y q).is, (named_coded z r).is)
word_packed (x ∷ (y ∷ (z ∷ (u ∷ s)))) few (cons p (cons q (cons r o))) = absurd (omega arith)

packed_filled : (s : List ℕ) → length s ≤ 3 → All is_letter_or_digit s → packed (code_in s 0) (code_in s 1) (code_in s 2) ≡ filled_word s
unfolding filled_word
packed_filled s few all = sym (ap (or_else 0) (word_packed s few all))

-- letters and digits have a word: none is 0 for want of a code
pub filled_word_law : (s : List ℕ) → length s ≤ 3 → All is_letter_or_digit s → word_of (blank_filled 3 s) ≡ some (filled_word s)
filled_word_law s few all = word_packed s few all ∙ ap some (packed_filled s few all)

no_characters : 0 ≡ filled_word []
unfolding filled_word word_of
no_characters = rw (code_blank 32 refl)

-- a place that is there has its character, whatever stands for absent ones
get_d_any : (s : List ℕ) (j d d' : ℕ) → j < length s → get_or s j d ≡ get_or s j d'
get_d_any s j d d' h = let same : get_or s j d ∷ drop (suc j) s ≡ get_or s j d' ∷ drop (suc j) s = sym (drop-cons s j d h) ∙ drop-cons s j d' h in cc

all_at : {t : ℕ → Bool} (s : List ℕ) → All t s → (k : ℕ) → k < length s → t (get_or s k 0) ≡ true
all_at s nil k below = absurd (omega arith)
all_at s (cons p all) zero below = p
all_at s (cons {s = rest} p all) (suc k) below = all_at rest all k (omega arith)

-- from `i` to `e`
module _ (s : List ℕ) (i e : ℕ) (up : i ≤ e) (within : e ≤ length s) where
  pub part_length : length (take (e - i) (drop i s)) ≡ e - i
  part_length = length-take-le (e - i) (drop i s) (simp length-drop (omega arith))

  character_part : (k : ℕ) → character_at s (i + k) e ≡ get_or (take (e - i) (drop i s)) k blank
  unfolding character_at
  character_part k = at (dec_lt (i + k) e)
    where
      at : Dec (i + k < e) → character_at s (i + k) e ≡ get_or (take (e - i) (drop i s)) k blank
      at (yes h) =
          let below : k < e - i = omega arith in
          let there : i + k < length s = omega arith in
          rw (lt-ltb (i + k) e h, get_or-take (e - i) (drop i s) k blank below, get_or-drop i s k blank) (get_d_any s (i + k) 0 blank there)
      at (no h) =
          let behind : e ≤ i + k = omega arith in
          let over : length (take (e - i) (drop i s)) ≤ k = rw part_length (omega arith) in
          rw (le-ltb (i + k) e behind) (sym (get_or-eq_default (take (e - i) (drop i s)) blank over))

  module _ (all : All is_letter_or_digit (take (e - i) (drop i s))) where
    pub named_at : (k : ℕ) → i ≤ k → k < e → is_letter_or_digit (get_or s k 0) ≡ true
    named_at k from to =
        let below : k - i < e - i = omega arith in
        let place : i + (k - i) ≡ k = omega arith in
        let is : get_or (take (e - i) (drop i s)) (k - i) 0 ≡ get_or s k 0 =
        get_or-take (e - i) (drop i s) (k - i) 0 below ∙ get_or-drop i s (k - i) 0 ∙ ap (λ (n : ℕ). get_or s n 0) place in
        ap is_letter_or_digit (sym is) ∙ all_at (take (e - i) (drop i s)) all (k - i) (rw part_length below)

    pub word_given : {a b c word : ℕ} → e ≤ i + 3
        → (a ≡ or_else 0 (code_of (character_at s i e))) × (a < 40)
        → (b ≡ or_else 0 (code_of (character_at s (i + 1) e))) × (b < 40)
        → (c ≡ or_else 0 (code_of (character_at s (i + 2) e))) × (c < 40)
        → word ≡ packed a b c → (word ≡ filled_word (take (e - i) (drop i s))) × (word < 65536)
    word_given {a} {b} {c} {word} few p q r is =
        let here : character_at s i e ≡ get_or (take (e - i) (drop i s)) 0 blank = ap (λ (k : ℕ). character_at s k e) (sym (add-zero i)) ∙ character_part 0 in (
          (rw (is, p.0, q.0, r.0, here, character_part 1, character_part 2) (packed_filled (take (e - i) (drop i s)) (rw part_length (omega arith)) all)),
          omega (arith, p.1, q.1, r.1, is),
        )

pub all_take : {t : ℕ → Bool} (n : ℕ) {s : List ℕ} → All t s → All t (take n s)
all_take zero all = nil
all_take (suc n) nil = nil
all_take (suc n) (cons p all) = cons p (all_take n all)

pub all_drop : {t : ℕ → Bool} (n : ℕ) {s : List ℕ} → All t s → All t (drop n s)
all_drop zero all = all
all_drop (suc n) nil = nil
all_drop (suc n) (cons p all) = all_drop n all

-- a name of up to three characters: its second word is blank
module _ (s : List ℕ) (i e : ℕ) (up : i ≤ e) (within : e ≤ length s) (short : e ≤ i + 3) where
  pub name_short : {word : ℕ} → (word ≡ filled_word (take (e - i) (drop i s))) × (word < 65536)
      → ((word ≡ first_word (take (e - i) (drop i s))) × (0 ≡ second_word (take (e - i) (drop i s)))) × ((word < 65536) × (0 < 65536))
  name_short is =
      let few : length (take (e - i) (drop i s)) ≤ 3 = rw (part_length s i e up within) (omega arith) in (
        (
          (is.0 ∙ ap filled_word (sym (take_all 3 (take (e - i) (drop i s)) few))),
          (no_characters ∙ ap filled_word (sym (drop_of_length-le (take (e - i) (drop i s)) few))),
        ),
        (is.1, omega arith),
      )

-- a longer one: its two halves
module _ (s : List ℕ) (i e : ℕ) (long : i + 3 < e) (within : e ≤ length s) where
  first_half : take 3 (take (e - i) (drop i s)) ≡ take (i + 3 - i) (drop i s)
  first_half =
      let three : 3 ≡ i + 3 - i = omega arith in
      take-take 3 (e - i) (drop i s) (omega arith) ∙ ap (λ (n : ℕ). take n (drop i s)) three

  second_half : drop 3 (take (e - i) (drop i s)) ≡ take (e - (i + 3)) (drop (i + 3) s)
  second_half =
      let whole : e - i ≡ 3 + (e - (i + 3)) = omega arith in
      rw (whole, take-add 3 (e - (i + 3)) (drop i s), drop-drop 3 i s)
      (drop_at (take 3 (drop i s)) (take (e - (i + 3)) (drop (i + 3) s)) 3 (length-take-le 3 (drop i s) (simp length-drop (omega arith))))

  pub first_all : All is_letter_or_digit (take (e - i) (drop i s)) → All is_letter_or_digit (take (i + 3 - i) (drop i s))
  first_all all = subst (All is_letter_or_digit) first_half (all_take 3 all)

  pub second_all : All is_letter_or_digit (take (e - i) (drop i s)) → All is_letter_or_digit (take (e - (i + 3)) (drop (i + 3) s))
  second_all all = subst (All is_letter_or_digit) second_half (all_drop 3 all)

  pub name_long : {first second : ℕ}
      → (first ≡ filled_word (take (i + 3 - i) (drop i s))) × (first < 65536)
      → (second ≡ filled_word (take (e - (i + 3)) (drop (i + 3) s))) × (second < 65536)
      → ((first ≡ first_word (take (e - i) (drop i s))) × (second ≡ second_word (take (e - i) (drop i s)))) × ((first < 65536) × (second < 65536))
  name_long p q = ((p.0 ∙ ap filled_word (sym first_half), q.0 ∙ ap filled_word (sym second_half)), (p.1, q.1))
