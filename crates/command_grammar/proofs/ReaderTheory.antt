-- What it is to read a language, and how readers are put together.
use Prim.Native.Nat.{ℕ, suc, zero, ◌≤◌}
use mathlib.Core.Path.{◌≡◌, refl, ap, ◌∙◌}
use mathlib.Core.List.{List, [], ◌∷◌, ◌++◌, append_assoc}
use mathlib.Core.Option.{Option, none, some}
use mathlib.Core.Bool.{Bool, true, false, cond}
use native.Mathlib.Nat.{suc-add, add-suc, not-suc-le-zero, le_refl}
use native.Mathlib.Omega.{arith}
use lib.ListN.{length, take, drop, length-append, length-take, length-drop}
use lib.Seq.{take-add, drop-append_seam}
use Rattle.command_grammar.specs.Reader.{Res, ok, no, used, later, mapped, and_then, seq, opt, many_by, many}
use Rattle.command_grammar.proofs.ReaderAgree.{Agree, end, same, agree_less, agree_drop}

module _ {A : Type 0} where
  -- what was read is of the language; what was refused is so from its place on, and what stands before begins a word
  abbrev pub Sound : (List ℕ → A → Type 0) → List ℕ → Res A → Type 0
  Sound X s (ok a n) = (n ≤ length s) × X (take n s) a
  Sound X s (no n) = (n ≤ length s) × ((t : List ℕ) × (a : A) × X (take n s ++ t) a)

  pub record IsReader (X : List ℕ → A → Type 0) (Stop : List ℕ → Type 0) (f : List ℕ → Res A) : Type 0 where
    pub sound : (s : List ℕ) → Sound X s (f s)
    -- the answer depends on no character behind the first that is not used
    pub near : (s t : List ℕ) → Agree (suc (used (f s))) s t → f t ≡ f s
    pub complete : (p rest : List ℕ) (a : A) → X p a → Stop rest → f (p ++ rest) ≡ ok a (length p)

  -- a language that is read has a word
  pub inhabited : {X : List ℕ → A → Type 0} (s : List ℕ) (r : Res A) → Sound X s r → (t : List ℕ) × (a : A) × X t a
  inhabited s (ok a n) h = (take n s, a, h.1)
  inhabited s (no n) h = (take n s ++ h.1.0, h.1.1, h.1.2)

  -- the same language, written another way
  pub sound_as : {X Z : List ℕ → A → Type 0} → ((s : List ℕ) (a : A) → X s a → Z s a) → (s : List ℕ) (r : Res A) → Sound X s r → Sound Z s r
  sound_as i s (ok a n) h = (h.0, i (take n s) a h.1)
  sound_as i s (no n) h = (h.0, (h.1.0, h.1.1, i (take n s ++ h.1.0) h.1.1 h.1.2))

  pub reads_as : {X Z : List ℕ → A → Type 0} {S T : List ℕ → Type 0} {f : List ℕ → Res A} → ((s : List ℕ) (a : A) → X s a → Z s a)
      → ((s : List ℕ) (a : A) → Z s a → X s a)
      → ((s : List ℕ) → T s → S s) → IsReader X S f → IsReader Z T f
  reads_as {f = f} i j w F = record { sound = λ s. sound_as i s (f s) (F.sound s); near = F.near; complete = λ p rest a z h. F.complete p rest a (j p a z) (w rest h) }

-- one reader and then another
pub data SeqR {A B C : Type 0} (X : List ℕ → A → Type 0) (Y : List ℕ → B → Type 0) (k : A → B → C) : List ℕ → C → Type 0 where
  both : {s t : List ℕ} {a : A} {b : B} → X s a → Y t b → SeqR X Y k (s ++ t) (k a b)

module _ {A B C : Type 0} (X : List ℕ → A → Type 0) (Y : List ℕ → B → Type 0) (g : List ℕ → Res B) (k : A → B → C) (G : (s : List ℕ) → Sound Y s (g s))
    (t₀ : List ℕ) (b₀ : B) (y₀ : Y t₀ b₀) where
  pub seq_later : (s : List ℕ) (a : A) (n : ℕ) → n ≤ length s → X (take n s) a → (r : Res B) → Sound Y (drop n s) r → Sound (SeqR X Y k) s (later n (k a) r)
  seq_later s a n le x (ok b m) h = (omega (arith, simp length-drop at h.0), rw (take-add n m s) (both x h.1))
  seq_later s a n le x (no m) h = (omega (arith, simp length-drop at h.0), (h.1.0, k a h.1.1, rw (take-add n m s, append_assoc) (both x h.1.2)))

  seq_sound : (s : List ℕ) (r : Res A) → Sound X s r → Sound (SeqR X Y k) s (and_then k g s r)
  seq_sound s (ok a n) h = seq_later s a n h.0 h.1 (g (drop n s)) (G (drop n s))
  seq_sound s (no n) h = (h.0, (h.1.0 ++ t₀, k h.1.1 b₀, rw (← append_assoc) (both h.1.2 y₀)))

-- the nearness of a sequence, where the second reader may differ for the two lists
module _ {A B C : Type 0} {f : List ℕ → Res A} (k : A → B → C) (F : (s t : List ℕ) → Agree (suc (used (f s))) s t → f t ≡ f s) (s t : List ℕ) (g g' : List ℕ → Res B) where
  near_later : (a : A) (n : ℕ) → f s ≡ ok a n → ((h : Agree (suc (used (g (drop n s)))) (drop n s) (drop n t)) → g' (drop n t) ≡ g (drop n s)) → (r : Res B) → g (drop n s) ≡ r
      → Agree (suc (used (later n (k a) r))) s t → and_then k g' t (f t) ≡ later n (k a) r
  near_later a n e G (ok b m) d h =
      ap (and_then k g' t) (F s t (rw e (agree_less (suc n) (omega arith) h)) ∙ e)
      ∙ ap (later n (k a)) (G (rw d (agree_drop n (suc m) s t (rw add-suc h))) ∙ d)
  near_later a n e G (no m) d h =
      ap (and_then k g' t) (F s t (rw e (agree_less (suc n) (omega arith) h)) ∙ e)
      ∙ ap (later n (k a)) (G (rw d (agree_drop n (suc m) s t (rw add-suc h))) ∙ d)

  seq_near : (r : Res A) → f s ≡ r → ((a : A) (n : ℕ) → r ≡ ok a n → Agree (suc (used (g (drop n s)))) (drop n s) (drop n t) → g' (drop n t) ≡ g (drop n s))
      → Agree (suc (used (and_then k g s r))) s t → and_then k g' t (f t) ≡ and_then k g s r
  seq_near (ok a n) e G h = near_later a n e (G a n refl) (g (drop n s)) refl h
  seq_near (no n) e G h = ap (and_then k g' t) (F s t (rw e h) ∙ e)

module _ {A B C : Type 0} {X : List ℕ → A → Type 0} {Y : List ℕ → B → Type 0} {SX SY : List ℕ → Type 0} {f : List ℕ → Res A} {g : List ℕ → Res B}
    (k : A → B → C) (F : IsReader X SX f)
    (G : IsReader Y SY g) (follow : (q rest : List ℕ) (b : B) → Y q b → SY rest → SX (q ++ rest)) where
  seq_complete : (p rest : List ℕ) (c : C) → SeqR X Y k p c → SY rest → seq k f g (p ++ rest) ≡ ok c (length p)
  seq_complete p rest c (both {s} {t} {a} {b} x y) h = rw (append_assoc, F.complete s (t ++ rest) a x (follow t rest b y h), drop-append_seam, G.complete t rest b y h, length-append)

  pub seq_reads : IsReader (SeqR X Y k) SY (seq k f g)
  seq_reads =
      record {
        sound = λ s. let w = inhabited {X = Y} [] (g []) (G.sound []) in seq_sound X Y g k G.sound w.0 w.1 w.2 s (f s) (F.sound s);
        near = λ s t h. seq_near k F.near s t g g (f s) refl (λ a n e. G.near (drop n s) (drop n t)) h;
        complete = seq_complete;
      }

-- what begins with a character of u, or nothing

pub data Begins (u : ℕ → Bool) : List ℕ → Type 0 where
  begins : {x : ℕ} {s : List ℕ} → u x ≡ true → Begins u (x ∷ s)

pub data Stop (t : ℕ → Bool) : List ℕ → Type 0 where
  over : Stop t []
  at : {x : ℕ} {s : List ℕ} → t x ≡ false → Stop t (x ∷ s)

pub data OptR {A : Type 0} (X : List ℕ → A → Type 0) : List ℕ → Option A → Type 0 where
  absent : OptR X [] none
  present : {s : List ℕ} {a : A} → X s a → OptR X s (some a)

module _ {A : Type 0} {X : List ℕ → A → Type 0} {SX : List ℕ → Type 0} {f : List ℕ → Res A} (u : ℕ → Bool) (F : IsReader X SX f)
    (first : (p : List ℕ) (a : A) → X p a → Begins u p) where
  opt_mapped : (s : List ℕ) (r : Res A) → Sound X s r → Sound (OptR X) s (mapped some r)
  opt_mapped s (ok a n) h = (h.0, present h.1)
  opt_mapped s (no n) h = (h.0, (h.1.0, some h.1.1, present h.1.2))

  opt_pick : (b : Bool) (x : ℕ) (s : List ℕ) → Sound (OptR X) (x ∷ s) (cond b (mapped some (f (x ∷ s))) (ok none 0))
  opt_pick true x s = opt_mapped (x ∷ s) (f (x ∷ s)) (F.sound (x ∷ s))
  opt_pick false x s = (omega arith, absent)

  opt_sound : (s : List ℕ) → Sound (OptR X) s (opt u f s)
  unfolding opt
  opt_sound [] = (omega arith, absent)
  opt_sound (x ∷ s) = opt_pick (u x) x s

  used_mapped : (r : Res A) → used (mapped some r) ≡ used r
  used_mapped (ok a n) = refl
  used_mapped (no n) = refl

  opt_near_pick : (b : Bool) (x : ℕ) (s t : List ℕ) → Agree (suc (used (cond b (mapped some (f (x ∷ s))) (ok none 0)))) (x ∷ s) (x ∷ t)
      → cond b (mapped some (f (x ∷ t))) (ok none 0) ≡ cond b (mapped some (f (x ∷ s))) (ok none 0)
  opt_near_pick true x s t h = ap (mapped some) (F.near (x ∷ s) (x ∷ t) (rw used_mapped at h))
  opt_near_pick false x s t h = refl

  opt_near : (s t : List ℕ) → Agree (suc (used (opt u f s))) s t → opt u f t ≡ opt u f s
  unfolding opt
  opt_near [] t end = refl
  opt_near (x ∷ s) t (same {t = t₁} h) = opt_near_pick (u x) x s t₁ (same h)

  opt_present : (p rest : List ℕ) (a : A) → X p a → Begins u p → SX rest → opt u f (p ++ rest) ≡ ok (some a) (length p)
  unfolding opt
  opt_present p rest a w (begins {x} {s} e) h = rw (e, F.complete (x ∷ s) rest a w h)

  opt_absent : (rest : List ℕ) → Stop u rest → opt u f rest ≡ ok none 0
  unfolding opt
  opt_absent rest over = refl
  opt_absent rest (at e) = rw e

  opt_complete : (p rest : List ℕ) (o : Option A) → OptR X p o → SX rest × Stop u rest → opt u f (p ++ rest) ≡ ok o (length p)
  opt_complete p rest o absent h = opt_absent rest h.1
  opt_complete p rest o (present {a} x) h = opt_present p rest a x (first p a x) h.0

  pub opt_reads : IsReader (OptR X) (λ rest. SX rest × Stop u rest) (opt u f)
  opt_reads = record { sound = opt_sound; near = opt_near; complete = opt_complete }

-- any number of what begins with a character of u

pub data ManyR {A : Type 0} (X : List ℕ → A → Type 0) : List ℕ → List A → Type 0 where
  finish : ManyR X [] []
  more : {s t : List ℕ} {a : A} {b : List A} → X s a → ManyR X t b → ManyR X (s ++ t) (a ∷ b)

module _ {A : Type 0} {X : List ℕ → A → Type 0} {SX : List ℕ → Type 0} {f : List ℕ → Res A} (u : ℕ → Bool) (F : IsReader X SX f)
    (first : (p : List ℕ) (a : A) → X p a → Begins u p)
    (again : (x : ℕ) (s : List ℕ) → u x ≡ true → SX (x ∷ s)) where
  as_many : (s : List ℕ) (b : List A) → SeqR X (ManyR X) ◌∷◌ s b → ManyR X s b
  as_many s b (both x y) = more x y

  many_pick : (k : ℕ) → ((s : List ℕ) → Sound (ManyR X) s (many_by k u f s)) → (b : Bool) (x : ℕ) (s : List ℕ)
      → Sound (ManyR X) (x ∷ s) (cond b (seq ◌∷◌ f (many_by k u f) (x ∷ s)) (ok [] 0))
  many_pick k G true x s = sound_as as_many (x ∷ s) (seq ◌∷◌ f (many_by k u f) (x ∷ s)) (seq_sound X (ManyR X) (many_by k u f) ◌∷◌ G [] [] finish (x ∷ s)
      (f (x ∷ s)) (F.sound (x ∷ s)))
  many_pick k G false x s = (omega arith, finish)

  many_sound : (k : ℕ) (s : List ℕ) → Sound (ManyR X) s (many_by k u f s)
  unfolding many_by
  many_sound zero s = (omega arith, finish)
  many_sound (suc k) [] = (omega arith, finish)
  many_sound (suc k) (x ∷ s) = many_pick k (λ s. many_sound k s) (u x) x s

  begins_positive : (p : List ℕ) → Begins u p → 1 ≤ length p
  begins_positive p (begins e) = omega arith

  pub drop_shorter : (n k : ℕ) (s : List ℕ) → 1 ≤ n → length s ≤ suc k → length (drop n s) ≤ k
  drop_shorter n k s h l = simp length-drop (omega arith)

  pub taken : (n : ℕ) (a : A) (s : List ℕ) → f s ≡ ok a n → 1 ≤ n
  taken n a s e = omega (arith, simp length-take at (begins_positive (take n s) (first (take n s) a (rw e at (F.sound s)).1)))

  many_empty : (k : ℕ) → many_by k u f [] ≡ ok [] 0
  unfolding many_by
  many_empty zero = refl
  many_empty (suc k) = refl

  near_pick : (k k' : ℕ) → ((s t : List ℕ) → length s ≤ k → length t ≤ k' → Agree (suc (used (many_by k u f s))) s t → many_by k' u f t ≡ many_by k u f s)
      → (x : ℕ) (s t : List ℕ) → length (x ∷ s) ≤ suc k → length (x ∷ t) ≤ suc k' → (b : Bool)
      → Agree (suc (used (cond b (seq ◌∷◌ f (many_by k u f) (x ∷ s)) (ok [] 0)))) (x ∷ s) (x ∷ t)
      → cond b (seq ◌∷◌ f (many_by k' u f) (x ∷ t)) (ok [] 0) ≡ cond b (seq ◌∷◌ f (many_by k u f) (x ∷ s)) (ok [] 0)
  near_pick k k' G x s t ls lt true h = seq_near ◌∷◌ F.near (x ∷ s) (x ∷ t) (many_by k u f) (many_by k' u f) (f (x ∷ s)) refl
      (λ a n e. G (drop n (x ∷ s)) (drop n (x ∷ t)) (drop_shorter n k (x ∷ s) (taken n a (x ∷ s) e) ls) (drop_shorter n k' (x ∷ t) (taken n a (x ∷ s) e) lt)) h
  near_pick k k' G x s t ls lt false h = refl

  pub many_near : (k k' : ℕ) (s t : List ℕ) → length s ≤ k → length t ≤ k' → Agree (suc (used (many_by k u f s))) s t → many_by k' u f t ≡ many_by k u f s
  unfolding many_by
  many_near zero k' [] t ls lt end = many_empty k'
  many_near zero k' (x ∷ s) t ls lt h = absurd (not-suc-le-zero ls)
  many_near (suc k) k' [] t ls lt end = many_empty k'
  many_near (suc k) zero (x ∷ s) t ls lt (same h) = absurd (not-suc-le-zero lt)
  many_near (suc k) (suc k') (x ∷ s) t ls lt (same {t = t₁} h) = near_pick k k' (λ s t. many_near k k' s t) x s t₁ ls lt (u x) (same h)

  many_stop : (k : ℕ) (rest : List ℕ) → Stop u rest → many_by k u f rest ≡ ok [] 0
  unfolding many_by
  many_stop zero rest h = refl
  many_stop (suc k) rest over = refl
  many_stop (suc k) rest (at e) = rw e

  begun : (s t : List ℕ) → Begins u s → SX (s ++ t)
  begun s t (begins {x} {s = s₁} e) = again x (s₁ ++ t) e

  pub many_follow : (t rest : List ℕ) (b : List A) → ManyR X t b → SX rest → SX (t ++ rest)
  many_follow t rest b finish h = h
  many_follow t rest b (more {s} {t = t₁} {a} x y) h = rw append_assoc (begun s (t₁ ++ rest) (first s a x))

  many_step : (k : ℕ) (s t rest : List ℕ) (a : A) (b : List A) → X s a → Begins u s → SX (t ++ rest) → many_by k u f (t ++ rest) ≡ ok b (length t)
      → many_by (suc k) u f (s ++ t ++ rest) ≡ ok (a ∷ b) (length (s ++ t))
  unfolding many_by
  many_step k s t rest a b w (begins {x} {s = s₁} d) h e = rw
      (d, append_assoc s₁ t rest, F.complete (x ∷ s₁) (t ++ rest) a w h, drop-append_seam s₁ (t ++ rest), e, length-append s₁ t, suc-add)

  many_complete : (k : ℕ) (p rest : List ℕ) (b : List A) → ManyR X p b → length (p ++ rest) ≤ k → SX rest × Stop u rest → many_by k u f (p ++ rest) ≡ ok b (length p)
  many_complete zero p rest b finish l h = many_stop zero rest h.1
  many_complete (suc k) p rest b finish l h = many_stop (suc k) rest h.1
  many_complete zero p rest b (more {s} {t} {a} x y) l h = absurd (omega (arith, begins_positive s (first s a x), simp length-append at l))
  many_complete (suc k) p rest b (more {s} {t} {a} {b = b₁} x y) l h =
      many_step k s t rest a b₁ x (first s a x) (many_follow t rest b₁ y h.0)
      (many_complete k t rest b₁ y (simp length-append (omega (arith, begins_positive s (first s a x), simp length-append at l))) h)

  pub many_reads : IsReader (ManyR X) (λ rest. SX rest × Stop u rest) (many u f)
  unfolding many
  many_reads =
      record {
        sound = λ s. many_sound (length s) s;
        near = λ s t h. many_near (length s) (length t) s t (le_refl (length s)) (le_refl (length t)) h;
        complete = λ p rest b m h. many_complete (length (p ++ rest)) p rest b m (le_refl (length (p ++ rest))) h;
      }
