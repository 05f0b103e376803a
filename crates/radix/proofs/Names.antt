-- The laws of legal names and extensions: the tests say what the paper says in characters.
use Prim.Native.Nat.{ℕ, zero, suc, ◌-◌, ◌≤◌}
use mathlib.Core.Path.{◌≡◌, refl, sym, ap, ap₂, ◌∙◌}
use mathlib.Core.Logic.{◌↔◌}
use mathlib.Core.Bool.{Bool, true, false, not}
use mathlib.Core.List.{List, [], ◌∷◌, ◌++◌}
use mathlib.Core.Option.{Option, none, some}
use native.Mathlib.Omega.{arith}
use lib.Dec.{eqb}
use lib.ListN.{length, take, drop, replicate, length-append, length-replicate, take-append-drop, length-take, length-drop}
use lib.Seq.{take_at, drop_at}
use borrow.Author.Tests.{not-true, eqb-true}
use Rattle.answers.proofs.RefusalsTests.{parts}
use Rattle.radix.specs.Packing.{first_code, characters_of}
use Rattle.radix.specs.Names.{is_letter_or_digit, blank, every, blank_filled, LegalName, LegalExtension}
use Rattle.radix.specs.NamesTest.{then_blanks, starts_blank, name_test, extension_test, legal_name, legal_extension}
use Rattle.radix.proofs.Packing.{word_pair}
use Rattle.radix.proofs.NamesTest.{named_not_blank, name_blank}

-- What the tests say in characters.
blanks_are : (s : List ℕ) → every (eqb blank) s ≡ true → s ≡ replicate (length s) blank
blanks_are [] all = refl
blanks_are (x ∷ xs) all =
    let same = eqb-true blank x (parts (eqb blank x) (every (eqb blank) xs) all).0 in
    ap₂ ◌∷◌ (sym same) (blanks_are xs (parts (eqb blank x) (every (eqb blank) xs) all).1)

replicate_blank : (k : ℕ) → every (eqb blank) (replicate k blank) ≡ true
replicate_blank zero = refl
replicate_blank (suc k) = replicate_blank k

-- letters and digits, then blanks only: a name filled with blanks
record Filled (s : List ℕ) : Type 0 where
  name : List ℕ
  fits : length name ≤ length s
  made : every is_letter_or_digit name ≡ true
  is : s ≡ blank_filled (length s) name
  starts : starts_blank s ≡ false → 1 ≤ length name

filled : (s : List ℕ) → then_blanks s ≡ true → Filled s
filled [] test = record { name = []; fits = omega arith; made = refl; is = refl; starts = λ never. let z : ◌≡◌ {A = ℕ} 0 1 = cc in absurd (omega arith) }
filled (x ∷ xs) test = at (is_letter_or_digit x) refl (filled xs)
  where
    at : (b : Bool) → is_letter_or_digit x ≡ b → (then_blanks xs ≡ true → Filled xs) → Filled (x ∷ xs)
    at true named rest =
        let f = rest (rw named at test) in
        let less : length xs - length f.name ≡ length (x ∷ xs) - length (x ∷ f.name) = omega arith in
        record {
          name = x ∷ f.name;
          fits = omega (arith, f.fits);
          made = rw named f.made;
          is = ap (◌∷◌ x) (f.is ∙ ap (λ k. f.name ++ replicate k blank) less);
          starts = λ h. omega arith;
        }
    at false named rest =
        let all : every (eqb blank) (x ∷ xs) ≡ true = rw named at test in
        let whole : length (x ∷ xs) ≡ length (x ∷ xs) - 0 = omega arith in
        record {
          name = [];
          fits = omega arith;
          made = refl;
          is = blanks_are (x ∷ xs) all ∙ ap (λ k. replicate k blank) whole;
          starts = λ h. let never = (parts (eqb blank x) (every (eqb blank) xs) all).0 in let z : ◌≡◌ {A = ℕ} 0 1 = cc in absurd (omega arith);
        }

then_blanks_filled : (name : List ℕ) (k : ℕ) → every is_letter_or_digit name ≡ true → then_blanks (name ++ replicate k blank) ≡ true
then_blanks_filled [] zero made = refl
then_blanks_filled [] (suc k) made = replicate_blank k
then_blanks_filled (x ∷ xs) k made = rw (parts (is_letter_or_digit x) (every is_letter_or_digit xs) made).0
    (then_blanks_filled xs k (parts (is_letter_or_digit x) (every is_letter_or_digit xs) made).1)

filled_length : (size : ℕ) (name : List ℕ) → length name ≤ size → length (blank_filled size name) ≡ size
filled_length size name fits = simp (length-append, length-replicate) (omega arith)

starts_append : (s t : List ℕ) → length s ≡ 3 → starts_blank s ≡ false → starts_blank (s ++ t) ≡ false
starts_append [] t three h = absurd (omega arith)
starts_append (x ∷ s) t three h = h

-- a name that is not empty does not start with a blank
starts_named : (name : List ℕ) → 1 ≤ length name → every is_letter_or_digit name ≡ true → starts_blank (take 3 (blank_filled 6 name)) ≡ false
starts_named [] least made = absurd (omega arith)
starts_named (x ∷ name) least made = named_not_blank x (parts (is_letter_or_digit x) (every is_letter_or_digit name) made).0

pub extension_iff : (w : ℕ) → legal_extension w ≡ true ↔ LegalExtension w
unfolding legal_extension
extension_iff w = (λ test. means (characters_of w) refl test, tested)
  where
    means : (o : Option (List ℕ)) → characters_of w ≡ o → extension_test o ≡ true → LegalExtension w
    means none is test = let z : ◌≡◌ {A = ℕ} 0 1 = cc in absurd (omega arith)
    means (some s) is test =
        let f = filled s test in
        let three = word_pair.sized w s is in
        record {
          extension = f.name;
          most = omega (arith, f.fits);
          made = f.made;
          one_word = rw (← three, ← f.is) (word_pair.back w s is);
        }

    tested : LegalExtension w → legal_extension w ≡ true
    tested l =
        rw (word_pair.forth (blank_filled 3 l.extension) w (filled_length 3 l.extension l.most) l.one_word)
        (then_blanks_filled l.extension (3 - length l.extension) l.made)

pub name_iff : (first second : ℕ) → legal_name first second ≡ true ↔ LegalName first second
unfolding legal_name
name_iff first second = (λ test. means (characters_of first) (characters_of second) refl refl test, tested)
  where
    means : (o p : Option (List ℕ)) → characters_of first ≡ o → characters_of second ≡ p → name_test o p ≡ true → LegalName first second
    means none p is is₂ test = let z : ◌≡◌ {A = ℕ} 0 1 = cc in absurd (omega arith)
    means (some s) none is is₂ test = let z : ◌≡◌ {A = ℕ} 0 1 = cc in absurd (omega arith)
    means (some s) (some t) is is₂ test =
        let f = filled (s ++ t) (parts (not (starts_blank s)) (then_blanks (s ++ t)) test).1 in
        let three = word_pair.sized first s is in
        let three₂ = word_pair.sized second t is₂ in
        let six : length (s ++ t) ≡ 6 = simp length-append (omega arith) in
        let same : blank_filled 6 f.name ≡ s ++ t = rw (← six) (sym f.is) in
        record {
          name = f.name;
          least = f.starts (starts_append s t three (not-true (starts_blank s) (parts (not (starts_blank s)) (then_blanks (s ++ t)) test).0));
          most = omega (arith, f.fits);
          made = f.made;
          first_word = rw (same, take_at s t 3 three) (word_pair.back first s is);
          second_word = rw (same, drop_at s t 3 three) (word_pair.back second t is₂);
        }

    tested : LegalName first second → name_test (characters_of first) (characters_of second) ≡ true
    tested l =
        let six = filled_length 6 l.name l.most in
        rw (
          word_pair.forth (take 3 (blank_filled 6 l.name)) first (simp length-take (omega arith)) l.first_word,
          word_pair.forth (drop 3 (blank_filled 6 l.name)) second (simp length-drop (omega arith)) l.second_word,
          take-append-drop 3 (blank_filled 6 l.name),
          starts_named l.name l.least l.made,
        )
        (then_blanks_filled l.name (6 - length l.name) l.made)

-- a legal name's first word is not 0: an entry whose first word is 0 has no legal name
pub name_not_zero : (first second : ℕ) → LegalName first second → first ≡ 0 → ⊥
name_not_zero first second legal is =
    let code : first_code first ≡ 0 = omega arith in
    let never : false ≡ true = name_blank first second code ∙ (name_iff first second).1 legal in
    let z : ◌≡◌ {A = ℕ} 0 1 = cc in
    omega arith
