-- The tests of names in the records: each is of what a line can name.
use Prim.Native.Nat.{ℕ, ◌+◌, ◌-◌, ◌≤◌}
use mathlib.Core.Path.{◌≡◌, refl, sym, ap, ◌∙◌}
use mathlib.Core.Logic.{◌⊎◌, inl, inr}
use mathlib.Core.Bool.{Bool, true, false}
use mathlib.Core.List.{List, [], ◌∷◌}
use mathlib.Core.Option.{some}
use native.Mathlib.Omega.{arith}
use borrow.Author.Tests.{le-leb, leb-true}
use lib.Dec.{leb}
use lib.ListN.{length, take, length-take}
use lib.Seq.{take_all}
use Rattle.std.specs.Prelude.{Decides}
use Rattle.answers.proofs.RefusalsTests.{and_both, parts}
use Rattle.radix.specs.Characters.{code_of}
use Rattle.radix.specs.Packing.{word_of, first_code, second_code, third_code}
use Rattle.radix.specs.Names.{is_letter, is_letter_or_digit}
use Rattle.radix.specs.NamesTest.{legal_name, legal_extension}
use Rattle.radix.proofs.Characters.{code_letter, code_blank, code_character, character_letter}
use Rattle.radix.proofs.Packing.{repacked}
use Rattle.radix.proofs.Names.{name_iff, extension_iff, name_not_zero}
use Rattle.command_grammar.specs.Grammar.{All, nil, cons, Between}
use Rattle.command_cursor.specs.FilledWord.{filled_word, first_word, second_word}
use Rattle.command_cursor.proofs.Classes.{letters_named}
use Rattle.command_cursor.proofs.FilledWord.{all_take}
use Rattle.command_cursor.proofs.FilledWordLegal.{legal_words, legal_word}
use Rattle.command_cursor.proofs.FilledWordNames.{legal_named, legal_extended, first_coded, two_coded, three_coded}
use Rattle.command_writing.specs.Sayable.{SwitchName}
use Rattle.command_writing.specs.Sayable as Y
use Rattle.command_writing.specs.PartFits.{DeviceLetters, ExtensionOf, NameOf, SwitchNameOf, LetterCode}

-- a letter's code
letter_bounds : (x : ℕ) → is_letter x ≡ true → (65 ≤ x) × (x ≤ 90)
letter_bounds x letter = (leb-true 65 x (parts (leb 65 x) (leb x 90) letter).0, leb-true x 90 (parts (leb 65 x) (leb x 90) letter).1)

letter_code : (x c : ℕ) → is_letter x ≡ true → code_of x ≡ some c → LetterCode c
letter_code x c letter is =
    let b = letter_bounds x letter in
    let same : some (x - 64) ≡ some c = sym (code_letter x b.0 b.1) ∙ is in
    let known : x - 64 ≡ c = cc in
    record { least = omega arith; most = omega arith }

code_letters : (c : ℕ) → LetterCode c → (is_letter (c + 64) ≡ true) × (code_of (c + 64) ≡ some c)
code_letters c l =
    let low : 65 ≤ c + 64 = omega (arith, l.least) in
    let high : c + 64 ≤ 90 = omega (arith, l.most) in
    (and_both (le-leb 65 (c + 64) low) (le-leb (c + 64) 90 high), code_letter (c + 64) low high ∙ ap some (omega arith))

-- a character whose code is a letter's is a letter
coded_letter : (x c : ℕ) → LetterCode c → code_of x ≡ some c → is_letter x ≡ true
coded_letter x c l is =
    let same : some x ≡ some (c + 64) = sym (code_character x c is) ∙ character_letter c l.least l.most in
    let known : x ≡ c + 64 = cc in
    let low : 65 ≤ x = omega (arith, l.least) in
    let high : x ≤ 90 = omega (arith, l.most) in
    and_both (le-leb 65 x low) (le-leb x 90 high)

blank_word : filled_word [] ≡ 0
unfolding filled_word word_of
blank_word = rw (code_blank 32 refl)

-- two letters and a blank, or three letters
pub letters_two : {word a b c : ℕ} → a ≡ first_code word → b ≡ second_code word → c ≡ third_code word → LetterCode a → LetterCode b → c ≡ 0 → DeviceLetters word
unfolding filled_word word_of
letters_two {word} {a} {b} {c} first second third la lb blanks =
    let p = code_letters a la in
    let q = code_letters b lb in
    record {
      letters = (a + 64) ∷ ((b + 64) ∷ []);
      run = record { all = cons p.0 (cons q.0 nil); least = omega arith; most = omega arith };
      is = rw (p.1, q.1, code_blank 32 refl) (omega (arith, repacked word));
    }

pub letters_three : {word a b c : ℕ} → a ≡ first_code word → b ≡ second_code word → c ≡ third_code word → LetterCode a → LetterCode b → LetterCode c → DeviceLetters word
unfolding filled_word word_of
letters_three {word} {a} {b} {c} first second third la lb lc =
    let p = code_letters a la in
    let q = code_letters b lb in
    let r = code_letters c lc in
    record {
      letters = (a + 64) ∷ ((b + 64) ∷ ((c + 64) ∷ []));
      run = record { all = cons p.0 (cons q.0 (cons r.0 nil)); least = omega arith; most = omega arith };
      is = rw (p.1, q.1, r.1) (omega (arith, repacked word));
    }

-- and no other word is one of letters
pub letters_codes : (word : ℕ) → DeviceLetters word → LetterCode (first_code word) × LetterCode (second_code word) × ((third_code word ≡ 0) ⊎ LetterCode (third_code word))
letters_codes word d = at d.letters d.run.all d.run.least d.run.most d.is
  where
    at : (s : List ℕ) → All is_letter s → 2 ≤ length s → length s ≤ 3 → filled_word s ≡ word
        → LetterCode (first_code word) × LetterCode (second_code word) × ((third_code word ≡ 0) ⊎ LetterCode (third_code word))
    at [] nil least most is = absurd (omega arith)
    at (x ∷ []) (cons p nil) least most is = absurd (omega arith)
    at (x ∷ (y ∷ [])) (cons p (cons q nil)) least most is =
        let k = two_coded x y (letters_named (cons p (cons q nil))) in
        let third : some 0 ≡ some (third_code (filled_word (x ∷ (y ∷ [])))) = sym (code_blank 32 refl) ∙ k.2 in
        let blanks : third_code (filled_word (x ∷ (y ∷ []))) ≡ 0 = cc in
        rw (← is) (letter_code x _ p k.0, letter_code y _ q k.1, inl blanks)
    at (x ∷ (y ∷ (z ∷ []))) (cons p (cons q (cons r nil))) least most is =
        let k = three_coded x y z (letters_named (cons p (cons q (cons r nil)))) in
        rw (← is) (letter_code x _ p k.0, letter_code y _ q k.1, inr (letter_code z _ r k.2))
    at (x ∷ (y ∷ (z ∷ (u ∷ s)))) all least most is = absurd (omega arith)

-- tests
module _ {P : Type 0} {b : Bool} where
  pub holds : b ≡ true → P → Decides b P
  holds is p = (λ held. p, λ fact. is)

  pub fails : b ≡ false → (P → ⊥) → Decides b P
  fails is never = (λ held. let z : ◌≡◌ {A = ℕ} 0 1 = cc in absurd (omega arith), λ fact. absurd (never fact))

  pub refuted : Decides b P → b ≡ false → P → ⊥
  refuted test is p = let held = test.1 p in let z : ◌≡◌ {A = ℕ} 0 1 = cc in omega arith

pub decides : {P : Type 0} {b : Bool} → (b ≡ true → P) → (b ≡ false → P → ⊥) → Decides b P
decides {b = true} told never = holds refl (told refl)
decides {b = false} told never = fails refl (never refl)

pub not_first : {word a : ℕ} → a ≡ first_code word → (LetterCode a → ⊥) → DeviceLetters word → ⊥
not_first {word} first other d = other (rw first (letters_codes word d).0)

pub not_second : {word b : ℕ} → b ≡ second_code word → (LetterCode b → ⊥) → DeviceLetters word → ⊥
not_second {word} second other d = other (rw second (letters_codes word d).1)

pub not_third : {word c : ℕ} → c ≡ third_code word → (c ≡ 0 → ⊥) → (LetterCode c → ⊥) → DeviceLetters word → ⊥
not_third {word} {c} third some-third other d = at (letters_codes word d).2
  where
    at : (third_code word ≡ 0) ⊎ LetterCode (third_code word) → ⊥
    at (inl blanks) = some-third (third ∙ blanks)
    at (inr letter) = other (rw third letter)

-- a name is legal exactly if it is one
pub named : {first second : ℕ} → legal_name first second ≡ true → NameOf first second
named {first} {second} legal =
    let n = legal_named ((name_iff first second).0 legal) in
    record { name = n.0; run = n.1; first_is = n.2; second_is = n.3 }

pub unnamed : {first second : ℕ} → legal_name first second ≡ false → NameOf first second → ⊥
unnamed {first} {second} never n =
    let legal = (name_iff first second).1 (rw (n.first_is, n.second_is) at (legal_words n.run)) in
    let z : ◌≡◌ {A = ℕ} 0 1 = cc in omega arith

pub extended : {word : ℕ} → legal_extension word ≡ true → (word ≡ 0 → ⊥) → ExtensionOf word
extended {word} legal some_word = at (legal_extended ((extension_iff word).0 legal)).0 (legal_extended ((extension_iff word).0 legal)).1 (legal_extended ((extension_iff word).0 legal)).2
  where
    at : (s : List ℕ) → Between 0 3 is_letter_or_digit s → filled_word s ≡ word → ExtensionOf word
    at [] run is = absurd (some_word (sym is ∙ blank_word))
    at (x ∷ s) run is = record { extension = x ∷ s; run = record { all = run.all; least = omega arith; most = run.most }; is = is }

pub unextended : {word : ℕ} → legal_extension word ≡ false → ExtensionOf word → ⊥
unextended {word} never e =
    let legal = (extension_iff word).1 (rw e.is at (legal_word e.run)) in
    let z : ◌≡◌ {A = ℕ} 0 1 = cc in omega arith

pub extension_some : {word : ℕ} → ExtensionOf word → word ≡ 0 → ⊥
extension_some {word} e none =
    let run : Between 1 6 is_letter_or_digit e.extension = record { all = e.run.all; least = e.run.least; most = omega (arith, e.run.most) } in
    let whole : first_word e.extension ≡ word = ap filled_word (take_all 3 e.extension e.run.most) ∙ e.is in
    name_not_zero (first_word e.extension) (second_word e.extension) (legal_words run) (whole ∙ none)

-- a switch's name begins with a letter
pub switch_run : {name : List ℕ} → SwitchName name → Between 1 6 is_letter_or_digit name
switch_run (Y.SwitchName.begins {c} letter run) =
    record { all = cons {c = c} (rw letter) run.all; least = omega arith; most = omega (arith, run.most) }

pub switch_named : {first second code : ℕ} → code ≡ first_code first → LetterCode code → legal_name first second ≡ true → SwitchNameOf first second
switch_named {first} {second} {code} coded letter legal = at n.name n.run.all n.run.least n.run.most n.first_is n.second_is
  where
    n : NameOf first second
    n = named legal

    at : (s : List ℕ) → All is_letter_or_digit s → 1 ≤ length s → length s ≤ 6 → first_word s ≡ first → second_word s ≡ second → SwitchNameOf first second
    at [] all least most p q = absurd (omega arith)
    at (c ∷ s) (cons e all) least most p q =
        let few : length (take 3 (c ∷ s)) ≤ 3 = simp length-take (omega arith) in
        let begins = first_coded c (take 2 s) few (all_take 3 (cons e all)) in
        let here : code_of c ≡ some code = begins ∙ ap (λ (w : ℕ). some (first_code w)) p ∙ ap some (sym coded) in
        record {
          name = c ∷ s;
          begins = Y.SwitchName.begins (coded_letter c code letter here) (record { all = all; least = omega arith; most = omega arith });
          first_is = p;
          second_is = q;
        }

pub switch_not_legal : {first second : ℕ} → legal_name first second ≡ false → SwitchNameOf first second → ⊥
switch_not_legal never n = unnamed never (record { name = n.name; run = switch_run n.begins; first_is = n.first_is; second_is = n.second_is })

pub switch_not_letter : {first second code : ℕ} → code ≡ first_code first → (LetterCode code → ⊥) → SwitchNameOf first second → ⊥
switch_not_letter {first} {second} {code} coded other n = at n.name n.begins n.first_is
  where
    at : (s : List ℕ) → SwitchName s → first_word s ≡ first → ⊥
    at s (Y.SwitchName.begins {c} {n = t} letter run) p =
        let few : length (take 3 (c ∷ t)) ≤ 3 = simp length-take (omega arith) in
        let all = all_take 3 (switch_run (Y.SwitchName.begins letter run)).all in
        let here : code_of c ≡ some (first_code first) = first_coded c (take 2 t) few all ∙ ap (λ (w : ℕ). some (first_code w)) p in
        other (rw coded (letter_code c (first_code first) letter here))
