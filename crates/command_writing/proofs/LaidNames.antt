-- What is laid of codes, words and octal numbers, and that the words of a name show the name.
use Prim.Native.Nat.{ℕ, ◌+◌, ◌/◌, ◌%◌, ◌≤◌, ◌<◌}
use mathlib.Core.Path.{◌≡◌, refl, sym, ap, ◌∙◌}
use mathlib.Core.Bool.{true, false}
use mathlib.Core.List.{List, [], ◌∷◌, ◌++◌, append-nil}
use mathlib.Core.Option.{Option, none, some}
use native.Mathlib.Omega.{arith}
use borrow.Author.Tests.{eq-eqb, ne_eqb, lt-ltb, le-ltb}
use lib.ListN.{length, take, drop, length-append, length-replicate, length-take, length-drop, take-append-drop}
use Rattle.radix.specs.Characters.{character_of, table}
use Rattle.radix.specs.Packing.{first_code, second_code, third_code, characters_of, three_if}
use Rattle.radix.specs.Names.{is_letter_or_digit, blank_filled}
use Rattle.radix.proofs.Packing.{word_pair}
use Rattle.radix.proofs.NamesTest.{named_not_blank}
use Rattle.numerals.specs.Digits.{digits}
use Rattle.command_grammar.specs.Grammar.{All, nil, cons, Between}
use Rattle.command_cursor.specs.FilledWord.{filled_word, first_word, second_word}
use Rattle.command_cursor.proofs.FilledWord.{filled_word_law, all_take, all_drop}
use Rattle.command_writing.specs.WrittenLine.{octal_digits, written_unit}
use Rattle.command_writing.specs.LaidText.{Puts, shown, shown_word, shown_name}
use Rattle.command_writing.proofs.LaidPieces.{puts_both, puts_same}

-- codes
pub shown_none : {o : Option ℕ} → o ≡ none → [] ≡ shown o
unfolding shown
shown_none is = rw is

pub shown_blank : {o : Option ℕ} {character : ℕ} → o ≡ some character → character ≡ 32 → [] ≡ shown o
unfolding shown
shown_blank {character} is blanks = rw (is, eq-eqb character 32 blanks)

pub shown_one : {o : Option ℕ} {character : ℕ} → o ≡ some character → (character ≡ 32 → ⊥) → character ∷ [] ≡ shown o
unfolding shown
shown_one {character} is other = rw (is, ne_eqb character 32 other)

-- a word is its three codes, a name its two words
pub word_laid : {before between further after : List ℕ} {count middle later next : ℕ} (word : ℕ) {a b c : ℕ}
    → a ≡ first_code word → Puts before count between middle (shown (character_of a))
    → b ≡ second_code word → Puts between middle further later (shown (character_of b))
    → c ≡ third_code word → Puts further later after next (shown (character_of c))
    → Puts before count after next (shown_word word)
unfolding shown_word
word_laid word first p second q third r = rw (← first, ← second, ← third) (puts_both p (puts_both q r))

pub name_laid : {before between after : List ℕ} {count middle next : ℕ} (first second : ℕ) → Puts before count between middle (shown_word first)
    → Puts between middle after next (shown_word second) → Puts before count after next (shown_name first second)
unfolding shown_name
name_laid first second p q = puts_both p q

-- or its first, where the second is blank
blanks_shown : shown_word 0 ≡ []
unfolding shown_word character_of table
blanks_shown = refl

pub name_alone : {before after : List ℕ} {count next : ℕ} (first second : ℕ) → second ≡ 0 → Puts before count after next (shown_word first)
    → Puts before count after next (shown_name first second)
unfolding shown_name
name_alone first second is word =
    puts_same (sym (append-nil (shown_word first)) ∙ ap (λ (s : List ℕ). shown_word first ++ s) (sym (ap shown_word is ∙ blanks_shown))) word

-- octal digits
module _ {before after : List ℕ} {count next : ℕ} {number : ℕ} where
  pub octal_one : number < 0o10 → Puts before count after next ((48 + number % 8) ∷ []) → Puts before count after next (octal_digits number)
  unfolding octal_digits
  octal_one small p = rw (lt-ltb number 0o10 small) p

  pub octal_two : 0o10 ≤ number → number < 0o100 → Puts before count after next (digits 8 2 number) → Puts before count after next (octal_digits number)
  unfolding octal_digits
  octal_two large small p = rw (le-ltb number 0o10 large, lt-ltb number 0o100 small) p

  pub octal_three : {between : List ℕ} {middle : ℕ} → 0o100 ≤ number → Puts before count between middle (digits 8 2 (number / 8))
      → Puts between middle after next ((48 + number % 8) ∷ []) → Puts before count after next (octal_digits number)
  unfolding octal_digits
  octal_three {between} {middle} large p q =
      let more : 0o10 ≤ number = omega arith in
      rw (le-ltb number 0o10 more, le-ltb number 0o100 large) (puts_both p q)

  pub unit_nothing : number ≡ 0 → Puts before count after next [] → Puts before count after next (written_unit number)
  unfolding written_unit
  unit_nothing zero_is p = rw (eq-eqb number 0 zero_is) p

  pub unit_some : (number ≡ 0 → ⊥) → Puts before count after next (octal_digits number) → Puts before count after next (written_unit number)
  unfolding written_unit
  unit_some other p = rw (ne_eqb number 0 other) p

-- the words of characters show them
filled_long : (s : List ℕ) → length s ≤ 3 → length (blank_filled 3 s) ≡ 3
filled_long s few = simp (length-append, length-replicate) (omega arith)

character_shown : (x : ℕ) → is_letter_or_digit x ≡ true → shown (some x) ≡ x ∷ []
unfolding shown
character_shown x named = rw (ne_eqb x 32 (λ is. let z : false ≡ true = sym (named_not_blank x named) ∙ eq-eqb 32 x (sym is) in let w : ◌≡◌ {A = ℕ} 0 1 = cc in omega arith))

blank_shown : shown (some 32) ≡ []
unfolding shown
blank_shown = refl

three_shown : (p q r : Option ℕ) (s : List ℕ) → length s ≤ 3 → All is_letter_or_digit s → three_if p q r ≡ some (blank_filled 3 s) → shown p ++ (shown q ++ shown r) ≡ s
three_shown (some x) (some y) (some z) [] few nil is =
    let a : x ≡ 32 = cc in
    let b : y ≡ 32 = cc in
    let c : z ≡ 32 = cc in
    rw (a, b, c, blank_shown)
three_shown (some x) (some y) (some z) (u ∷ []) few (cons p nil) is =
    let a : x ≡ u = cc in
    let b : y ≡ 32 = cc in
    let c : z ≡ 32 = cc in
    rw (a, b, c, character_shown u p, blank_shown)
three_shown (some x) (some y) (some z) (u ∷ (v ∷ [])) few (cons p (cons q nil)) is =
    let a : x ≡ u = cc in
    let b : y ≡ v = cc in
    let c : z ≡ 32 = cc in
    rw (a, b, c, character_shown u p, character_shown v q, blank_shown)
three_shown (some x) (some y) (some z) (u ∷ (v ∷ (w ∷ []))) few (cons p (cons q (cons r nil))) is =
    let a : x ≡ u = cc in
    let b : y ≡ v = cc in
    let c : z ≡ w = cc in
    rw (a, b, c, character_shown u p, character_shown v q, character_shown w r)
three_shown (some x) (some y) (some z) (u ∷ (v ∷ (w ∷ (t ∷ s)))) few all is = absurd (omega arith)
three_shown (some x) (some y) none s few all is = let z : ◌≡◌ {A = ℕ} 0 1 = cc in absurd (omega arith)
three_shown (some x) none r s few all is = let z : ◌≡◌ {A = ℕ} 0 1 = cc in absurd (omega arith)
three_shown none q r s few all is = let z : ◌≡◌ {A = ℕ} 0 1 = cc in absurd (omega arith)

pub word_shown : (s : List ℕ) → length s ≤ 3 → All is_letter_or_digit s → shown_word (filled_word s) ≡ s
unfolding shown_word characters_of
word_shown s few all =
    three_shown (character_of (first_code (filled_word s))) (character_of (second_code (filled_word s))) (character_of (third_code (filled_word s))) s few all
    (word_pair.forth (blank_filled 3 s) (filled_word s) (filled_long s few) (filled_word_law s few all))

pub name_shown : (name : List ℕ) → Between 1 6 is_letter_or_digit name → shown_name (first_word name) (second_word name) ≡ name
unfolding shown_name
name_shown name run =
    rw (
      word_shown (take 3 name) (simp length-take (omega arith)) (all_take 3 run.all),
      word_shown (drop 3 name) (simp length-drop (omega (arith, run.most))) (all_drop 3 run.all),
    )
    (take-append-drop 3 name)
