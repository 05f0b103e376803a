-- What is legal has a name: a legal name is the words of one, a legal extension the word of one. And the codes of a word are those of its characters.
use Prim.Native.Nat.{ℕ, ◌≤◌}
use mathlib.Core.Path.{◌≡◌, sym, ap, ◌∙◌}
use mathlib.Core.Bool.{Bool, true}
use mathlib.Core.List.{List, [], ◌∷◌}
use mathlib.Core.Option.{Option, none, some}
use native.Mathlib.Omega.{arith}
use lib.ListN.{length, length-append, length-replicate}
use Rattle.answers.specs.Missing.{or_else}
use Rattle.answers.proofs.RefusalsTests.{parts}
use Rattle.radix.specs.Characters.{code_of, character_of}
use Rattle.radix.specs.Packing.{word_of, characters_of, three_if, first_code, second_code, third_code}
use Rattle.radix.specs.Names.{is_letter_or_digit, every, blank_filled, LegalName, LegalExtension}
use Rattle.radix.proofs.Characters.{character_code}
use Rattle.radix.proofs.Packing.{word_pair}
use Rattle.command_grammar.specs.Grammar.{All, nil, cons, Between}
use Rattle.command_cursor.specs.FilledWord.{filled_word, first_word, second_word}
use Rattle.command_cursor.proofs.FilledWord.{filled_word_law}
use Rattle.command_cursor.proofs.FilledWordLegal.{halves}

every_all : (t : ℕ → Bool) (s : List ℕ) → every t s ≡ true → All t s
every_all t [] made = nil
every_all t (x ∷ s) made = cons (parts (t x) (every t s) made).0 (every_all t s (parts (t x) (every t s) made).1)

pub legal_named : {first second : ℕ} → LegalName first second
    → (name : List ℕ) × Between 1 6 is_letter_or_digit name × (first_word name ≡ first) × (second_word name ≡ second)
unfolding filled_word
legal_named l = (
  l.name,
  record { all = every_all is_letter_or_digit l.name l.made; least = l.least; most = l.most },
  ap (or_else 0) (ap word_of (sym (halves l.name l.most).0) ∙ l.first_word),
  ap (or_else 0) (ap word_of (sym (halves l.name l.most).1) ∙ l.second_word),
)

pub legal_extended : {word : ℕ} → LegalExtension word → (extension : List ℕ) × Between 0 3 is_letter_or_digit extension × (filled_word extension ≡ word)
unfolding filled_word
legal_extended l = (
  l.extension,
  record { all = every_all is_letter_or_digit l.extension l.made; least = omega arith; most = l.most },
  ap (or_else 0) l.one_word,
)

-- the characters of the word are these, and then blanks
pub word_characters : (s : List ℕ) → length s ≤ 3 → All is_letter_or_digit s → characters_of (filled_word s) ≡ some (blank_filled 3 s)
word_characters s few all =
    word_pair.forth (blank_filled 3 s) (filled_word s) (simp (length-append, length-replicate) (omega arith)) (filled_word_law s few all)

three_codes : (p q r : Option ℕ) {x y z : ℕ} → three_if p q r ≡ some (x ∷ (y ∷ (z ∷ []))) → (p ≡ some x) × (q ≡ some y) × (r ≡ some z)
three_codes (some a) (some b) (some c) is = (cc, cc, cc)
three_codes (some a) (some b) none is = let z : ◌≡◌ {A = ℕ} 0 1 = cc in absurd (omega arith)
three_codes (some a) none r is = let z : ◌≡◌ {A = ℕ} 0 1 = cc in absurd (omega arith)
three_codes none q r is = let z : ◌≡◌ {A = ℕ} 0 1 = cc in absurd (omega arith)

word_codes : (w : ℕ) {x y z : ℕ} → characters_of w ≡ some (x ∷ (y ∷ (z ∷ [])))
    → (code_of x ≡ some (first_code w)) × (code_of y ≡ some (second_code w)) × (code_of z ≡ some (third_code w))
unfolding characters_of
word_codes w {x} {y} {z} is =
    let t = three_codes (character_of (first_code w)) (character_of (second_code w)) (character_of (third_code w)) is in
    (character_code (first_code w) x t.0, character_code (second_code w) y t.1, character_code (third_code w) z t.2)

pub first_coded : (x : ℕ) (s : List ℕ) → length (x ∷ s) ≤ 3 → All is_letter_or_digit (x ∷ s) → code_of x ≡ some (first_code (filled_word (x ∷ s)))
first_coded x [] few all = (word_codes _ (word_characters (x ∷ []) few all)).0
first_coded x (y ∷ []) few all = (word_codes _ (word_characters (x ∷ (y ∷ [])) few all)).0
first_coded x (y ∷ (z ∷ [])) few all = (word_codes _ (word_characters (x ∷ (y ∷ (z ∷ []))) few all)).0
first_coded x (y ∷ (z ∷ (u ∷ s))) few all = absurd (omega arith)

-- two characters and a blank, and three
pub two_coded : (x y : ℕ) → All is_letter_or_digit (x ∷ (y ∷ []))
    → (code_of x ≡ some (first_code (filled_word (x ∷ (y ∷ []))))) × (code_of y ≡ some (second_code (filled_word (x ∷ (y ∷ [])))))
    × (code_of 32 ≡ some (third_code (filled_word (x ∷ (y ∷ [])))))
two_coded x y all = word_codes _ (word_characters (x ∷ (y ∷ [])) (omega arith) all)

pub three_coded : (x y z : ℕ) → All is_letter_or_digit (x ∷ (y ∷ (z ∷ [])))
    → (code_of x ≡ some (first_code (filled_word (x ∷ (y ∷ (z ∷ [])))))) × (code_of y ≡ some (second_code (filled_word (x ∷ (y ∷ (z ∷ []))))))
    × (code_of z ≡ some (third_code (filled_word (x ∷ (y ∷ (z ∷ []))))))
three_coded x y z all = word_codes _ (word_characters (x ∷ (y ∷ (z ∷ []))) (omega arith) all)
