-- The smallest readers: one character; a run of characters.
use Prim.Native.Nat.{ℕ, suc, zero, ◌-◌, ◌≤◌, ◌<◌}
use mathlib.Core.Path.{◌≡◌, refl, ap}
use mathlib.Core.List.{List, [], ◌∷◌, ◌++◌}
use mathlib.Core.Bool.{Bool, true, false, cond}
use native.Mathlib.Nat.{not-suc-le-zero}
use native.Mathlib.Omega.{arith}
use borrow.Author.Tests.{leb-true, leb-false, le-leb}
use lib.Dec.{leb}
use lib.ListN.{length, take, replicate, length-append, length-replicate}
use lib.Seq.{take-append_seam, length-take-le}
use Rattle.command_grammar.specs.Grammar.{All, nil, cons, Between, Some}
use Rattle.command_grammar.specs.Reader.{ok, no, used, span, span_all, one_character, word}
use Rattle.command_grammar.proofs.ReaderAgree.{Agree, end, same, agree_less, agree_taken}
use Rattle.command_grammar.proofs.ReaderTheory.{Sound, IsReader, Stop, over, at}

-- one character

pub data OneR (t : ℕ → Bool) : List ℕ → ℕ → Type 0 where
  single : {x : ℕ} → t x ≡ true → OneR t (x ∷ []) x

-- what may follow: anything
abbrev pub Any : List ℕ → Type 0
Any s = Unit {0}

module _ (t : ℕ → Bool) (w : ℕ) (yes-w : t w ≡ true) where
  one_pick : (b : Bool) (x : ℕ) (s : List ℕ) → t x ≡ b → Sound (OneR t) (x ∷ s) (cond b (ok x 1) (no 0))
  one_pick true x s e = (omega arith, single e)
  one_pick false x s e = (omega arith, (w ∷ [], w, single yes-w))

  one_sound : (s : List ℕ) → Sound (OneR t) s (one_character t s)
  unfolding one_character
  one_sound [] = (omega arith, (w ∷ [], w, single yes-w))
  one_sound (x ∷ s) = one_pick (t x) x s refl

  one_near : (s s' : List ℕ) → Agree (suc (used (one_character t s))) s s' → one_character t s' ≡ one_character t s
  unfolding one_character
  one_near [] s' end = refl
  one_near (x ∷ s) s' (same h) = refl

  one_complete : (p rest : List ℕ) (a : ℕ) → OneR t p a → Any rest → one_character t (p ++ rest) ≡ ok a (length p)
  unfolding one_character
  one_complete p rest a (single e) h = rw e

  pub one_reads : IsReader (OneR t) Any (one_character t)
  one_reads = record { sound = one_sound; near = one_near; complete = one_complete }

-- a run of characters

pub data Word (P : List ℕ → Type 0) : List ℕ → List ℕ → Type 0 where
  of : {s : List ℕ} → P s → Word P s s

-- what n counts, where P is wanted
pub record Counts (a : ℕ) (P : List ℕ → Type 0) (S : List ℕ → Type 0) (n : List ℕ → ℕ) : Type 0 where
  pub within : (s : List ℕ) → n s ≤ length s
  pub close : (s s' : List ℕ) → Agree (suc (n s)) s s' → n s' ≡ n s
  pub good : (s : List ℕ) → a ≤ n s → P (take (n s) s)
  pub fill : (s : List ℕ) → n s < a → (u : List ℕ) × P (take (n s) s ++ u)
  pub least : (p : List ℕ) → P p → a ≤ length p
  pub stops : (p rest : List ℕ) → P p → S rest → n (p ++ rest) ≡ length p

module _ {a : ℕ} {P : List ℕ → Type 0} {S : List ℕ → Type 0} {n : List ℕ → ℕ} (N : Counts a P S n) where
  word_pick : (b : Bool) (s : List ℕ) → leb a (n s) ≡ b → Sound (Word P) s (cond b (ok (take (n s) s) (n s)) (no (n s)))
  word_pick true s e = (N.within s, of (N.good s (leb-true a (n s) e)))
  word_pick false s e = let f = N.fill s (leb-false a (n s) e) in (N.within s, (f.0, take (n s) s ++ f.0, of f.1))

  word_sound : (s : List ℕ) → Sound (Word P) s (word a n s)
  unfolding word
  word_sound s = word_pick (leb a (n s)) s refl

  used_word : (s : List ℕ) → used (word a n s) ≡ n s
  unfolding word
  used_word s = go (leb a (n s))
    where
      go : (b : Bool) → used (cond b (ok (take (n s) s) (n s)) (no (n s))) ≡ n s
      go true = refl
      go false = refl

  word_same : (s s' : List ℕ) → Agree (suc (n s)) s s' → word a n s' ≡ word a n s
  unfolding word
  word_same s s' h = rw (N.close s s' h, agree_taken (n s) (agree_less (n s) (omega arith) h))

  word_near : (s s' : List ℕ) → Agree (suc (used (word a n s))) s s' → word a n s' ≡ word a n s
  word_near s s' h = word_same s s' (rw used_word at h)

  word_complete : (p rest v : List ℕ) → Word P p v → S rest → word a n (p ++ rest) ≡ ok v (length p)
  unfolding word
  word_complete p rest v (of q) h = rw (N.stops p rest q h, le-leb a (length p) (N.least p q), take-append_seam)

  pub word_reads : IsReader (Word P) S (word a n)
  word_reads = record { sound = word_sound; near = word_near; complete = word_complete }

pub all_append : {t : ℕ → Bool} {s u : List ℕ} → All t s → All t u → All t (s ++ u)
all_append nil b = b
all_append (cons e a) b = cons e (all_append a b)

all_copies : {t : ℕ → Bool} (k w : ℕ) → t w ≡ true → All t (replicate k w)
all_copies zero w e = nil
all_copies (suc k) w e = cons e (all_copies k w e)

pick_le : (b : Bool) (n l : ℕ) → n ≤ l → cond b (suc n) 0 ≤ suc l
pick_le true n l h = omega arith
pick_le false n l h = omega arith

pick_all : {t : ℕ → Bool} (b : Bool) (x n : ℕ) (s : List ℕ) → t x ≡ b → All t (take n s) → All t (take (cond b (suc n) 0) (x ∷ s))
pick_all true x n s e a = cons e a
pick_all false x n s e a = nil

pick_close : (b : Bool) (n n' : ℕ) (s s' : List ℕ) → (Agree (suc n) s s' → n' ≡ n) → Agree (cond b (suc n) 0) s s' → cond b (suc n') 0 ≡ cond b (suc n) 0
pick_close true n n' s s' f h = ap suc (f h)
pick_close false n n' s s' f h = refl

-- at most m
module _ (t : ℕ → Bool) where
  pub span_within : (m : ℕ) (s : List ℕ) → span t m s ≤ length s
  unfolding span
  span_within zero s = omega arith
  span_within (suc m) [] = omega arith
  span_within (suc m) (x ∷ s) = pick_le (t x) (span t m s) (length s) (span_within m s)

  span_most : (m : ℕ) (s : List ℕ) → span t m s ≤ m
  unfolding span
  span_most zero s = omega arith
  span_most (suc m) [] = omega arith
  span_most (suc m) (x ∷ s) = pick_le (t x) (span t m s) m (span_most m s)

  span_all_law : (m : ℕ) (s : List ℕ) → All t (take (span t m s) s)
  unfolding span
  span_all_law zero s = nil
  span_all_law (suc m) [] = nil
  span_all_law (suc m) (x ∷ s) = pick_all (t x) x (span t m s) s refl (span_all_law m s)

  pub span_close : (m : ℕ) (s s' : List ℕ) → Agree (suc (span t m s)) s s' → span t m s' ≡ span t m s
  unfolding span
  span_close zero s s' h = refl
  span_close (suc m) [] s' end = refl
  span_close (suc m) (x ∷ s) s' (same {t = s₁} h) = pick_close (t x) (span t m s) (span t m s₁) s s₁ (λ k. span_close m s s₁ k) h

  span_none : (m : ℕ) (rest : List ℕ) → Stop t rest → span t m rest ≡ 0
  unfolding span
  span_none zero rest h = refl
  span_none (suc m) rest over = refl
  span_none (suc m) rest (at e) = rw e

  pub span_stops : (m : ℕ) (p rest : List ℕ) → All t p → length p ≤ m → Stop t rest → span t m (p ++ rest) ≡ length p
  unfolding span
  span_stops m p rest nil l h = span_none m rest h
  span_stops zero p rest (cons e a) l h = absurd (not-suc-le-zero l)
  span_stops (suc m) p rest (cons {s} e a) l h = rw e (ap suc (span_stops m s rest a (omega arith) h))

  all_within : (s : List ℕ) → span_all t s ≤ length s
  unfolding span_all
  all_within [] = omega arith
  all_within (x ∷ s) = pick_le (t x) (span_all t s) (length s) (all_within s)

  all_all : (s : List ℕ) → All t (take (span_all t s) s)
  unfolding span_all
  all_all [] = nil
  all_all (x ∷ s) = pick_all (t x) x (span_all t s) s refl (all_all s)

  all_close : (s s' : List ℕ) → Agree (suc (span_all t s)) s s' → span_all t s' ≡ span_all t s
  unfolding span_all
  all_close [] s' end = refl
  all_close (x ∷ s) s' (same {t = s₁} h) = pick_close (t x) (span_all t s) (span_all t s₁) s s₁ (λ k. all_close s s₁ k) h

  all_none : (rest : List ℕ) → Stop t rest → span_all t rest ≡ 0
  unfolding span_all
  all_none rest over = refl
  all_none rest (at e) = rw e

  all_stops : (p rest : List ℕ) → All t p → Stop t rest → span_all t (p ++ rest) ≡ length p
  unfolding span_all
  all_stops p rest nil h = all_none rest h
  all_stops p rest (cons {s} e a) h = rw e (ap suc (all_stops s rest a h))

module _ (a b : ℕ) (t : ℕ → Bool) (w : ℕ) (yes-w : t w ≡ true) (ab : a ≤ b) where
  run_counts : Counts a (Between a b t) (Stop t) (span t b)
  run_counts = record {
    within = span_within t b;
    close = span_close t b;
    good = λ s h. record {
      all = span_all_law t b s;
      least = rw (length-take-le (span t b s) s (span_within t b s)) h;
      most = rw
          (length-take-le (span t b s) s (span_within t b s)) (span_most t b s);
    };
    fill = λ s h. (
      replicate (a - span t b s) w,
      record {
        all = all_append (span_all_law t b s) (all_copies (a - span t b s) w yes-w);
        least = simp (length-append, length-replicate, length-take-le (span t b s) s (span_within t b s)) (omega arith);
        most = simp (length-append, length-replicate, length-take-le (span t b s) s (span_within t b s)) (omega arith);
      },
    );
    least = λ p r. r.least;
    stops = λ p rest r h. span_stops t b p rest r.all r.most h;
  }

  pub run_reads : IsReader (Word (Between a b t)) (Stop t) (word a (span t b))
  run_reads = word_reads run_counts

module _ (t : ℕ → Bool) (w : ℕ) (yes-w : t w ≡ true) where
  some_counts : Counts 1 (Some t) (Stop t) (span_all t)
  some_counts = record {
    within = all_within t;
    close = all_close t;
    good = λ s h. record { all = all_all t s; least = rw (length-take-le (span_all t s) s (all_within t s)) h };
    fill = λ s h. (w ∷ [], record { all = all_append (all_all t s) (cons yes-w nil); least = simp (length-append) (omega arith) });
    least = λ p r. r.least;
    stops = λ p rest r h. all_stops t p rest r.all h;
  }

  pub some_reads : IsReader (Word (Some t)) (Stop t) (word 1 (span_all t))
  some_reads = word_reads some_counts

  any_counts : Counts 0 (All t) (Stop t) (span_all t)
  any_counts = record {
    within = all_within t;
    close = all_close t;
    good = λ s h. all_all t s;
    fill = λ s h. absurd (not-suc-le-zero h);
    least = λ p r. omega arith;
    stops = λ p rest r h. all_stops t p rest r h;
  }

  pub any_reads : IsReader (Word (All t)) (Stop t) (word 0 (span_all t))
  any_reads = word_reads any_counts
