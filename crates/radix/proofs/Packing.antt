-- The laws of words: three characters and their word undo each other, and which words and characters are refused.
use Prim.Native.Nat.{ℕ, ◌≤◌, ◌<◌}
use mathlib.Core.Path.{◌≡◌, refl, sym, ap, ◌∙◌}
use mathlib.Core.Logic.{◌⊎◌, inl, inr, ◌↔◌}
use mathlib.Core.List.{List, [], ◌∷◌}
use mathlib.Core.Option.{Option, none, some}
use native.Mathlib.Omega.{arith}
use lib.ListN.{length, get_or}
use Rattle.answers.proofs.Conversion.{Pair}
use Rattle.radix.specs.Characters.{code_of, character_of, Outside}
use Rattle.radix.specs.Packing.{packed, packed_if, three_if, first_code, second_code, third_code, upper_end, word_of, characters_of, NoCharacters}
use Rattle.radix.proofs.Characters.{code_none, code_none_iff, code_character, character_code, code_bound, character_none, character_none_iff}

-- what three that are there are made of
record Three (p q r : Option ℕ) (s : List ℕ) : Type 0 where
  x : ℕ
  y : ℕ
  z : ℕ
  first : p ≡ some x
  second : q ≡ some y
  third : r ≡ some z
  made : s ≡ x ∷ (y ∷ (z ∷ []))

three : (p q r : Option ℕ) (s : List ℕ) → three_if p q r ≡ some s → Three p q r s
three (some x) (some y) (some z) s is = record { x = x; y = y; z = z; first = refl; second = refl; third = refl; made = cc }
three (some x) (some y) none s is = let z : ◌≡◌ {A = ℕ} 0 1 = cc in absurd (omega arith)
three (some x) none r s is = let z : ◌≡◌ {A = ℕ} 0 1 = cc in absurd (omega arith)
three none q r s is = let z : ◌≡◌ {A = ℕ} 0 1 = cc in absurd (omega arith)

record Codes (p q r : Option ℕ) (w : ℕ) : Type 0 where
  a : ℕ
  b : ℕ
  c : ℕ
  first : p ≡ some a
  second : q ≡ some b
  third : r ≡ some c
  made : w ≡ packed a b c

codes : (p q r : Option ℕ) (w : ℕ) → packed_if p q r ≡ some w → Codes p q r w
codes (some a) (some b) (some c) w is = record { a = a; b = b; c = c; first = refl; second = refl; third = refl; made = cc }
codes (some a) (some b) none w is = let z : ◌≡◌ {A = ℕ} 0 1 = cc in absurd (omega arith)
codes (some a) none r w is = let z : ◌≡◌ {A = ℕ} 0 1 = cc in absurd (omega arith)
codes none q r w is = let z : ◌≡◌ {A = ℕ} 0 1 = cc in absurd (omega arith)

-- a word is its three codes packed, and packed codes below 40 are those of their word
pub repacked : (w : ℕ) → packed (first_code w) (second_code w) (third_code w) ≡ w
repacked w = omega arith

pub packed_first : (a b c : ℕ) → a < 40 → b < 40 → c < 40 → first_code (packed a b c) ≡ a
packed_first a b c ha hb hc = omega arith

pub packed_second : (a b c : ℕ) → a < 40 → b < 40 → c < 40 → second_code (packed a b c) ≡ b
packed_second a b c ha hb hc = omega arith

pub packed_third : (a b c : ℕ) → a < 40 → b < 40 → c < 40 → third_code (packed a b c) ≡ c
packed_third a b c ha hb hc = omega arith

-- RADPK's and RADUP's conversions are a pair
unpack : (w : ℕ) (s : List ℕ) → characters_of w ≡ some s → Three (character_of (first_code w)) (character_of (second_code w)) (character_of (third_code w)) s
unfolding characters_of
unpack w s is = three (character_of (first_code w)) (character_of (second_code w)) (character_of (third_code w)) s is

word_back : (w : ℕ) (s : List ℕ) → characters_of w ≡ some s → word_of s ≡ some w
unfolding word_of
word_back w s is =
    let t = unpack w s is in
    rw (t.made, character_code _ _ t.first, character_code _ _ t.second, character_code _ _ t.third) (ap some (repacked w))

characters_forth : (s : List ℕ) (w : ℕ) → length s ≡ 3 → word_of s ≡ some w → characters_of w ≡ some s
unfolding word_of characters_of
characters_forth (x ∷ (y ∷ (z ∷ []))) w same is =
    let k = codes (code_of x) (code_of y) (code_of z) w is in
    let ha = code_bound x k.a k.first in
    let hb = code_bound y k.b k.second in
    let hc = code_bound z k.c k.third in
    rw (
      k.made,
      packed_first k.a k.b k.c ha hb hc,
      packed_second k.a k.b k.c ha hb hc,
      packed_third k.a k.b k.c ha hb hc,
      code_character x k.a k.first,
      code_character y k.b k.second,
      code_character z k.c k.third,
    )
characters_forth [] w same is = absurd (omega arith)
characters_forth (x ∷ []) w same is = absurd (omega arith)
characters_forth (x ∷ (y ∷ [])) w same is = absurd (omega arith)
characters_forth (x ∷ (y ∷ (z ∷ (u ∷ rest)))) w same is = absurd (omega arith)

pub word_pair : Pair 3 word_of characters_of
word_pair =
    record {
      sized = λ w s is. rw (unpack w s is).made;
      back = word_back;
      forth = characters_forth;
    }

three_none : (p q r : Option ℕ) → three_if p q r ≡ none → (p ≡ none) ⊎ ((q ≡ none) ⊎ (r ≡ none))
three_none none q r is = inl refl
three_none (some x) none r is = inr (inl refl)
three_none (some x) (some y) none is = inr (inr refl)
three_none (some x) (some y) (some z) is = let z : ◌≡◌ {A = ℕ} 0 1 = cc in absurd (omega arith)

pub none_first : (q r : Option ℕ) (p : Option ℕ) → p ≡ none → three_if p q r ≡ none
none_first q r p is = rw is

pub none_second : (p r : Option ℕ) (q : Option ℕ) → q ≡ none → three_if p q r ≡ none
none_second none r q is = refl
none_second (some x) r q is = rw is

pub none_third : (p q : Option ℕ) (r : Option ℕ) → r ≡ none → three_if p q r ≡ none
none_third none q r is = refl
none_third (some x) none r is = refl
none_third (some x) (some y) r is = rw is

pub characters_first : (w : ℕ) → character_of (first_code w) ≡ none → characters_of w ≡ none
unfolding characters_of
characters_first w is = none_first _ _ (character_of (first_code w)) is

pub characters_second : (w : ℕ) → character_of (second_code w) ≡ none → characters_of w ≡ none
unfolding characters_of
characters_second w is = none_second (character_of (first_code w)) (character_of (third_code w)) (character_of (second_code w)) is

pub characters_third : (w : ℕ) → character_of (third_code w) ≡ none → characters_of w ≡ none
unfolding characters_of
characters_third w is = none_third (character_of (first_code w)) (character_of (second_code w)) (character_of (third_code w)) is

pub characters_end : (w : ℕ) → upper_end ≤ w → characters_of w ≡ none
characters_end w high = characters_first w (character_none (first_code w) (inr (omega arith)))

-- the characters of a word, by its codes
pub characters_by : (w : ℕ) {a b c : ℕ} → a ≡ first_code w → b ≡ second_code w → c ≡ third_code w → three_if (character_of a) (character_of b) (character_of c) ≡ characters_of w
unfolding characters_of
characters_by w first second third = rw (first, second, third)

pub characters_three : (w x y z : ℕ) → character_of (first_code w) ≡ some x → character_of (second_code w) ≡ some y → character_of (third_code w) ≡ some z
    → characters_of w ≡ some (x ∷ (y ∷ (z ∷ [])))
unfolding characters_of
characters_three w x y z first second third = rw (first, second, third)

pub unpacking_refused : (w : ℕ) → characters_of w ≡ none ↔ NoCharacters w
unpacking_refused w = (λ is. lacking (none_of is), refused)
  where
    none_of : characters_of w ≡ none → (character_of (first_code w) ≡ none) ⊎ ((character_of (second_code w) ≡ none) ⊎ (character_of (third_code w) ≡ none))
    none_of is = three_none (character_of (first_code w)) (character_of (second_code w)) (character_of (third_code w)) (unfold characters_of in is)

    high : (first_code w ≡ 29) ⊎ (40 ≤ first_code w) → NoCharacters w
    high (inl is) = inr (inl is)
    high (inr from) = inl (omega arith)

    middle : (second_code w ≡ 29) ⊎ (40 ≤ second_code w) → NoCharacters w
    middle (inl is) = inr (inr (inl is))
    middle (inr from) = absurd (omega arith)

    low : (third_code w ≡ 29) ⊎ (40 ≤ third_code w) → NoCharacters w
    low (inl is) = inr (inr (inr is))
    low (inr from) = absurd (omega arith)

    lacking : (character_of (first_code w) ≡ none) ⊎ ((character_of (second_code w) ≡ none) ⊎ (character_of (third_code w) ≡ none)) → NoCharacters w
    lacking (inl is) = high ((character_none_iff (first_code w)).0 is)
    lacking (inr (inl is)) = middle ((character_none_iff (second_code w)).0 is)
    lacking (inr (inr is)) = low ((character_none_iff (third_code w)).0 is)

    refused : NoCharacters w → characters_of w ≡ none
    refused (inl from) = characters_end w from
    refused (inr (inl is)) = characters_first w (character_none (first_code w) (inl is))
    refused (inr (inr (inl is))) = characters_second w (character_none (second_code w) (inl is))
    refused (inr (inr (inr is))) = characters_third w (character_none (third_code w) (inl is))

-- the word of the three bytes of a buffer
pub word_of_three : (s : List ℕ) → length s ≡ 3 → word_of s ≡ packed_if (code_of (get_or s 0 0)) (code_of (get_or s 1 0)) (code_of (get_or s 2 0))
unfolding word_of
word_of_three (x ∷ (y ∷ (z ∷ []))) same = refl
word_of_three [] same = absurd (omega arith)
word_of_three (x ∷ []) same = absurd (omega arith)
word_of_three (x ∷ (y ∷ [])) same = absurd (omega arith)
word_of_three (x ∷ (y ∷ (z ∷ (u ∷ rest)))) same = absurd (omega arith)

packed_none : (p q r : Option ℕ) → packed_if p q r ≡ none → (p ≡ none) ⊎ ((q ≡ none) ⊎ (r ≡ none))
packed_none none q r is = inl refl
packed_none (some a) none r is = inr (inl refl)
packed_none (some a) (some b) none is = inr (inr refl)
packed_none (some a) (some b) (some c) is = let z : ◌≡◌ {A = ℕ} 0 1 = cc in absurd (omega arith)

pub unpacked_first : (q r p : Option ℕ) → p ≡ none → packed_if p q r ≡ none
unpacked_first q r p is = rw is

pub unpacked_second : (p r q : Option ℕ) → q ≡ none → packed_if p q r ≡ none
unpacked_second none r q is = refl
unpacked_second (some a) r q is = rw is

pub unpacked_third : (p q r : Option ℕ) → r ≡ none → packed_if p q r ≡ none
unpacked_third none q r is = refl
unpacked_third (some a) none r is = refl
unpacked_third (some a) (some b) r is = rw is

-- a byte outside the set, and no other, has RADPK refuse three characters
pub packing_refused : (s : List ℕ) → length s ≡ 3
    → word_of s ≡ none ↔ (Outside (get_or s 0 0) ⊎ (Outside (get_or s 1 0) ⊎ Outside (get_or s 2 0)))
packing_refused s same = (λ is. lacking (packed_none _ _ _ (sym (word_of_three s same) ∙ is)), refused)
  where
    lacking : (code_of (get_or s 0 0) ≡ none) ⊎ ((code_of (get_or s 1 0) ≡ none) ⊎ (code_of (get_or s 2 0) ≡ none)) → Outside (get_or s 0 0) ⊎
        (Outside (get_or s 1 0) ⊎ Outside (get_or s 2 0))
    lacking (inl is) = inl ((code_none_iff (get_or s 0 0)).0 is)
    lacking (inr (inl is)) = inr (inl ((code_none_iff (get_or s 1 0)).0 is))
    lacking (inr (inr is)) = inr (inr ((code_none_iff (get_or s 2 0)).0 is))

    refused : Outside (get_or s 0 0) ⊎ (Outside (get_or s 1 0) ⊎ Outside (get_or s 2 0)) → word_of s ≡ none
    refused (inl out) = word_of_three s same ∙ unpacked_first _ _ (code_of (get_or s 0 0)) (code_none (get_or s 0 0) out)
    refused (inr (inl out)) = word_of_three s same ∙ unpacked_second (code_of (get_or s 0 0)) (code_of (get_or s 2 0)) (code_of (get_or s 1 0)) (code_none (get_or s 1 0) out)
    refused (inr (inr out)) = word_of_three s same ∙ unpacked_third (code_of (get_or s 0 0)) (code_of (get_or s 1 0)) (code_of (get_or s 2 0)) (code_none (get_or s 2 0) out)
