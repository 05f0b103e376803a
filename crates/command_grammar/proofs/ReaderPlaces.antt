-- Readers at a place of a line: what the code's proofs cite.
use Prim.Native.Nat.{ℕ, suc, ◌+◌, ◌-◌, ◌≤◌, ◌<◌}
use mathlib.Core.Path.{◌≡◌, refl, sym, ap, ◌∙◌}
use mathlib.Core.List.{List, [], ◌∷◌}
use mathlib.Core.Option.{none, some}
use mathlib.Core.Bool.{Bool, true, false, cond}
use native.Mathlib.Nat.{add-zero, le_refl}
use native.Mathlib.Omega.{arith}
use lib.Dec.{leb}
use borrow.Author.Tests.{le-leb, lt-leb, leb-true}
use lib.ListN.{length, take, drop, length-drop}
use lib.Seq.{drop-drop}
use Rattle.command_grammar.specs.Reader.{is, Res, ok, no, used, later, mapped, and_then, seq, opt, many_by, many, one_character, word, moved, from}
use Rattle.command_grammar.proofs.ReaderAgree.{agree_refl}
use Rattle.command_grammar.proofs.ReaderTheory.{IsReader, Begins, many_near, taken, drop_shorter}

module _ {A B C : Type 0} (k : A → B → C) (f : List ℕ → Res A) (g : List ℕ → Res B) (s : List ℕ) (i : ℕ) where
  moved_later : (a : A) (n : ℕ) (r : Res B) → moved i (later n (k a) r) ≡ mapped (k a) (moved (i + n) r)
  moved_later a n (ok b m) = ap (ok (k a b)) (omega arith)
  moved_later a n (no m) = ap no (omega arith)

  seq_read : (a : A) (j : ℕ) (r : Res A) → f (drop i s) ≡ r → moved i r ≡ ok a j → from (seq k f g) s i ≡ mapped (k a) (from g s j)
  unfolding from
  seq_read a j (ok b n) e h =
      let p : b ≡ a = cc in
      let q : i + n ≡ j = cc in
      rw (e, moved_later b n (g (drop n (drop i s))), drop-drop n i s, p, q)
  seq_read a j (no n) e h = let z : ◌≡◌ {A = ℕ} 0 1 = cc in absurd (omega arith)

  seq_refused : (p : ℕ) (r : Res A) → f (drop i s) ≡ r → moved i r ≡ no p → from (seq k f g) s i ≡ no p
  unfolding from
  seq_refused p (ok b n) e h = let z : ◌≡◌ {A = ℕ} 0 1 = cc in absurd (omega arith)
  seq_refused p (no n) e h = let q : i + n ≡ p = cc in rw (e, q)

  pub from_seq : (a : A) (j : ℕ) → from f s i ≡ ok a j → from (seq k f g) s i ≡ mapped (k a) (from g s j)
  unfolding from
  from_seq a j h = seq_read a j (f (drop i s)) refl h

  pub from_seq_no : (p : ℕ) → from f s i ≡ no p → from (seq k f g) s i ≡ no p
  unfolding from
  from_seq_no p h = seq_refused p (f (drop i s)) refl h

pub from_word : (a : ℕ) (n : List ℕ → ℕ) (s : List ℕ) (i : ℕ) → a ≤ n (drop i s) → from (word a n) s i ≡ ok (take (n (drop i s)) (drop i s)) (i + n (drop i s))
unfolding from word
from_word a n s i l = rw (le-leb a (n (drop i s)) l)

pub from_word_no : (a : ℕ) (n : List ℕ → ℕ) (s : List ℕ) (i : ℕ) → n (drop i s) < a → from (word a n) s i ≡ no (i + n (drop i s))
unfolding from word
from_word_no a n s i l = rw (lt-leb a (n (drop i s)) l)

-- a part that begins with the character c, by whether c stands there

module _ {A : Type 0} (c : ℕ) (f : List ℕ → Res A) (s : List ℕ) (i : ℕ) where
  opt_missed : (p : ℕ) (d : List ℕ) → moved i (one_character (is c) d) ≡ no p → moved i (opt (is c) f d) ≡ ok none i
  unfolding one_character opt
  opt_missed p [] h = rw add-zero
  opt_missed p (x ∷ d) h = go (is c x) h
    where
      go : (b : Bool) → moved i (cond b (ok x 1) (no 0)) ≡ no p → moved i (cond b (mapped some (f (x ∷ d))) (ok none 0)) ≡ ok none i
      go true h = let z : ◌≡◌ {A = ℕ} 0 1 = cc in absurd (omega arith)
      go false h = rw add-zero

  opt_found : (x j : ℕ) (d : List ℕ) → moved i (one_character (is c) d) ≡ ok x j → moved i (opt (is c) f d) ≡ mapped some (moved i (f d))
  unfolding one_character opt
  opt_found x j [] h = let z : ◌≡◌ {A = ℕ} 0 1 = cc in absurd (omega arith)
  opt_found x j (y ∷ d) h = go (is c y) h
    where
      mm : (r : Res A) → moved i (mapped some r) ≡ mapped some (moved i r)
      mm (ok a n) = refl
      mm (no n) = refl

      go : (b : Bool) → moved i (cond b (ok y 1) (no 0)) ≡ ok x j → moved i (cond b (mapped some (f (y ∷ d))) (ok none 0)) ≡ mapped some (moved i (f (y ∷ d)))
      go true h = mm (f (y ∷ d))
      go false h = let z : ◌≡◌ {A = ℕ} 0 1 = cc in absurd (omega arith)

  pub from_opt_missed : (p : ℕ) → from (one_character (is c)) s i ≡ no p → from (opt (is c) f) s i ≡ ok none i
  unfolding from
  from_opt_missed p h = opt_missed p (drop i s) h

  pub from_opt_found : (x j : ℕ) → from (one_character (is c)) s i ≡ ok x j → from (opt (is c) f) s i ≡ mapped some (from f s i)
  unfolding from
  from_opt_found x j h = opt_found x j (drop i s) h

  many_missed : (p : ℕ) (d : List ℕ) → moved i (one_character (is c) d) ≡ no p → moved i (many (is c) f d) ≡ ok [] i
  unfolding one_character many many_by
  many_missed p [] h = rw add-zero
  many_missed p (x ∷ d) h = go (is c x) h
    where
      go : (b : Bool) → moved i (cond b (ok x 1) (no 0)) ≡ no p → moved i (cond b (seq ◌∷◌ f (many_by (length d) (is c) f) (x ∷ d)) (ok [] 0)) ≡ ok [] i
      go true h = let z : ◌≡◌ {A = ℕ} 0 1 = cc in absurd (omega arith)
      go false h = rw add-zero

  pub from_many_missed : (p : ℕ) → from (one_character (is c)) s i ≡ no p → from (many (is c) f) s i ≡ ok [] i
  unfolding from
  from_many_missed p h = many_missed p (drop i s) h

module _ {A : Type 0} {X : List ℕ → A → Type 0} {SX : List ℕ → Type 0} {f : List ℕ → Res A} (c : ℕ) (F : IsReader X SX f) (begun : (p : List ℕ) (a : A) → X p a → Begins (is c) p)
    (again : (x : ℕ) (s : List ℕ) → is c x ≡ true → SX (x ∷ s)) (s : List ℕ) (i : ℕ) where
  enough : (k : ℕ) (d : List ℕ) → length d ≤ k → many_by k (is c) f d ≡ many (is c) f d
  unfolding many
  enough k d l = many_near (is c) F begun again (length d) k d d (le_refl (length d)) l (agree_refl (suc (used (many_by (length d) (is c) f d))) d)

  more_from : (x : ℕ) (d : List ℕ) (r : Res A) → f (x ∷ d) ≡ r → and_then ◌∷◌ (many_by (length d) (is c) f) (x ∷ d) r ≡ and_then ◌∷◌ (many (is c) f) (x ∷ d) r
  more_from x d (ok a n) e =
      let some = taken (is c) F begun again n a (x ∷ d) e in
      let shorter = drop_shorter (is c) F begun again n (length d) (x ∷ d) some (le_refl (suc (length d))) in
      ap (later n (◌∷◌ a)) (enough (length d) (drop n (x ∷ d)) shorter)
  more_from x d (no n) e = refl

  many_found : (x j : ℕ) (d : List ℕ) → moved i (one_character (is c) d) ≡ ok x j → many (is c) f d ≡ seq ◌∷◌ f (many (is c) f) d
  unfolding one_character many many_by
  many_found x j [] h = let z : ◌≡◌ {A = ℕ} 0 1 = cc in absurd (omega arith)
  many_found x j (y ∷ d) h = go (is c y) h
    where
      go : (b : Bool) → moved i (cond b (ok y 1) (no 0)) ≡ ok x j → cond b (seq ◌∷◌ f (many_by (length d) (is c) f) (y ∷ d)) (ok [] 0) ≡ seq ◌∷◌ f (many (is c) f) (y ∷ d)
      go true h = more_from y d (f (y ∷ d)) refl
      go false h = let z : ◌≡◌ {A = ℕ} 0 1 = cc in absurd (omega arith)

  pub from_many_found : (x j : ℕ) → from (one_character (is c)) s i ≡ ok x j → from (many (is c) f) s i ≡ from (seq ◌∷◌ f (many (is c) f)) s i
  unfolding from
  from_many_found x j h = ap (moved i) (many_found x j (drop i s) h)

-- where the character c was found, the next place is one on, and within the line
one_at : (c i x j : ℕ) (d : List ℕ) → moved i (one_character (is c) d) ≡ ok x j → (j ≡ i + 1) × (1 ≤ length d)
unfolding one_character
one_at c i x j [] h = let z : ◌≡◌ {A = ℕ} 0 1 = cc in absurd (omega arith)
one_at c i x j (y ∷ d) h = go (is c y) h
  where
    go : (b : Bool) → moved i (cond b (ok y 1) (no 0)) ≡ ok x j → (j ≡ i + 1) × (1 ≤ suc (length d))
    go true h = let q : i + 1 ≡ j = cc in (sym q, omega arith)
    go false h = let z : ◌≡◌ {A = ℕ} 0 1 = cc in absurd (omega arith)

pub one_place : (c : ℕ) (s : List ℕ) (i x j : ℕ) → from (one_character (is c)) s i ≡ ok x j → (j ≡ i + 1) × (i < length s)
unfolding from
one_place c s i x j h = let r = one_at c i x j (drop i s) h in (r.0, omega (arith, r.1, length-drop i s))

-- what begins with c, where it was read, goes on and stays within the line
module _ {A : Type 0} {X : List ℕ → A → Type 0} {SX : List ℕ → Type 0} {f : List ℕ → Res A} (c : ℕ) (F : IsReader X SX f) (begun : (p : List ℕ) (a : A) → X p a → Begins (is c) p)
    (again : (x : ℕ) (s : List ℕ) → is c x ≡ true → SX (x ∷ s)) (s : List ℕ) (i : ℕ) (a : A) (j : ℕ) where
  progress_from : (r : Res A) → f (drop i s) ≡ r → moved i r ≡ ok a j → (i < j) × (j ≤ length s)
  progress_from (ok b n) e h =
      let q : i + n ≡ j = cc in
      let t : 1 ≤ n = taken (is c) F begun again n b (drop i s) e in
      let l : n ≤ length s - i = rw length-drop at (rw e at (F.sound (drop i s))).0 in
      (omega arith, omega arith)
  progress_from (no n) e h = let z : ◌≡◌ {A = ℕ} 0 1 = cc in absurd (omega arith)

  pub progress : from f s i ≡ ok a j → (i < j) × (j ≤ length s)
  unfolding from
  progress h = progress_from (f (drop i s)) refl h

-- what was read, taken apart: what each reader of it read

pub mapped_ok : {A B : Type 0} {b : B} {j : ℕ} (h : A → B) (r : Res A) → mapped h r ≡ ok b j → (a : A) × (r ≡ ok a j) × (b ≡ h a)
mapped_ok {j = j} h (ok a n) e =
    let q : n ≡ j = cc in
    (a, ap (ok a) q, cc)
mapped_ok h (no n) e = let z : ◌≡◌ {A = ℕ} 0 1 = cc in absurd (omega arith)

module _ {A B C : Type 0} (k : A → B → C) (f : List ℕ → Res A) (g : List ℕ → Res B) (s : List ℕ) (i : ℕ) {c : C} {j : ℕ} (h : from (seq k f g) s i ≡ ok c j) where
  both_from : (r : Res A) → from f s i ≡ r → (a : A) × (m : ℕ) × (b : B) × (from f s i ≡ ok a m) × (from g s m ≡ ok b j) × (c ≡ k a b)
  both_from (ok a m) e = let x = mapped_ok (k a) (from g s m) (sym (from_seq k f g s i a m e) ∙ h) in (a, m, x.0, e, x.1, x.2)
  both_from (no p) e =
      let w : no p ≡ ok c j = sym (from_seq_no k f g s i p e) ∙ h in
      let z : ◌≡◌ {A = ℕ} 0 1 = cc in
      absurd (omega arith)

  pub seq_both : (a : A) × (m : ℕ) × (b : B) × (from f s i ≡ ok a m) × (from g s m ≡ ok b j) × (c ≡ k a b)
  seq_both = both_from (from f s i) refl

pub word_taken : (a : ℕ) (n : List ℕ → ℕ) (s : List ℕ) (i : ℕ) {w : List ℕ} {j : ℕ} → from (word a n) s i ≡ ok w j
    → (j ≡ i + n (drop i s)) × (w ≡ take (n (drop i s)) (drop i s)) × (a ≤ n (drop i s))
unfolding from word
word_taken a n s i {w} {j} h = go (leb a (n (drop i s))) refl h
  where
    go : (b : Bool) → leb a (n (drop i s)) ≡ b → moved i (cond b (ok (take (n (drop i s)) (drop i s)) (n (drop i s))) (no (n (drop i s)))) ≡ ok w j
        → (j ≡ i + n (drop i s)) × (w ≡ take (n (drop i s)) (drop i s)) × (a ≤ n (drop i s))
    go true l h = (cc, cc, leb-true a (n (drop i s)) l)
    go false l h = let z : ◌≡◌ {A = ℕ} 0 1 = cc in absurd (omega arith)
