-- A device and a file: which of the two stands at the start of a specification.
use Prim.Native.Nat.{ℕ, suc, zero, ◌≤◌, ◌<◌}
use mathlib.Core.Path.{◌≡◌, refl, sym, ap, ◌∙◌}
use mathlib.Core.Logic.{◌⊎◌, inl, inr}
use mathlib.Core.List.{List, [], ◌∷◌, ◌++◌, append_assoc, append-nil}
use mathlib.Core.Option.{Option, none, some}
use mathlib.Core.Bool.{Bool, true, false, cond, not, ◌&&◌}
use native.Mathlib.Nat.{add-suc, not-suc-le-zero, le_of_suc-le-suc}
use native.Mathlib.Omega.{arith}
use borrow.Author.Tests.{not-true, leb-true, leb-false, le-leb, lt-leb}
use lib.Dec.{leb}
use lib.ListN.{length, take, drop, take-append-drop, length-append}
use lib.Seq.{drop-append_seam}
use Rattle.radix.specs.Names.{is_letter, is_letter_or_digit}
use Rattle.command_grammar.specs.LineCharacters.{is_octal, period, colon}
use Rattle.command_grammar.specs.Parsed.{FileName, Device}
use Rattle.command_grammar.specs.Grammar.{All, nil, cons, Between, IsDevice, IsFile}
use Rattle.command_grammar.specs.Grammar as G
use Rattle.command_grammar.specs.Reader.{is, Res, ok, no, used, later, mapped, and_then, seq, opt, span}
use Rattle.command_grammar.specs.Reader.{one_character, word, first, second, mk_file, mk_device, device, file, Head, mk_head, head_from, head}
use Rattle.command_grammar.proofs.ReaderAgree.{Agree, agree_less, agree_drop}
use Rattle.command_grammar.proofs.ReaderTheory.{Sound, sound_as, IsReader, reads_as, SeqR, both, seq_later, seq_reads, Stop, at, Begins, begins, OptR, absent, present, opt_reads}
use Rattle.command_grammar.proofs.ReaderLeaves.{Any, Word, of, run_reads, any_reads, all_append, span_close, span_stops}
use Rattle.command_grammar.proofs.ReaderParts.{ChrR, chr, chr_reads, chr_first, elem, Next, final, next, next_stop, next_sub, holds, is_out, begun, seq_first, opt_behind, after_head}

-- a file

abbrev ExtensionR : List ℕ → List ℕ → Type 0
ExtensionR = SeqR (ChrR period) (Word (Between 1 3 is_letter_or_digit)) second

abbrev NameR : List ℕ → FileName → Type 0
NameR = SeqR (Word (Between 1 6 is_letter_or_digit)) (OptR ExtensionR) mk_file

extension_first : (p a : List ℕ) → ExtensionR p a → Begins (is period) p
extension_first = seq_first (ChrR period) (Word (Between 1 3 is_letter_or_digit)) second (chr_first period)

run_begins : (s : List ℕ) → All is_letter_or_digit s → 1 ≤ length s → Begins is_letter_or_digit s
run_begins s nil h = absurd (not-suc-le-zero h)
run_begins s (cons e a) h = begins e

word_begins : (p a : List ℕ) → Word (Between 1 6 is_letter_or_digit) p a → Begins is_letter_or_digit p
word_begins p a (of r) = run_begins p r.all r.least

file_to : (s : List ℕ) (o : Option FileName) → OptR NameR s o → IsFile s o
file_to s o absent = G.IsFile.absent
file_to s o (present (both (of n) absent)) = rw append-nil (G.IsFile.name n)
file_to s o (present (both (of n) (present (both chr (of e))))) = G.IsFile.extended n e

file_from : (s : List ℕ) (o : Option FileName) → IsFile s o → OptR NameR s o
file_from s o G.IsFile.absent = absent
file_from s o (G.IsFile.name {n} r) = let w : OptR NameR (n ++ []) (some (mk_file n none)) = present (both (of r) absent) in rw append-nil at w
file_from s o (G.IsFile.extended n e) = present (both (of n) (present (both chr (of e))))

pub file_reads : IsReader IsFile (Next after_head) file
unfolding file
file_reads = reads_as file_to file_from (λ s h. ((next_stop is_letter_or_digit after_head refl s h, next_stop (is period) after_head refl s h), next_stop is_letter_or_digit after_head refl s h))
    (opt_reads is_letter_or_digit
    (seq_reads mk_file (run_reads 1 6 is_letter_or_digit 65 refl (omega arith))
    (opt_reads (is period)
    (seq_reads second (chr_reads period) (run_reads 1 3 is_letter_or_digit 65 refl (omega arith)) (λ q rest b y h. tt))
    extension_first)
    (λ q rest b y h. opt_behind (Stop is_letter_or_digit) extension_first (is_out period is_letter_or_digit refl) q rest b y h.0))
    (seq_first (Word (Between 1 6 is_letter_or_digit)) (OptR ExtensionR) mk_file word_begins))

-- a device

abbrev UnitR : List ℕ → List ℕ → Type 0
UnitR = SeqR (Word (All is_octal)) (ChrR colon) first

abbrev DeviceR : List ℕ → Device → Type 0
DeviceR = SeqR (Word (Between 2 3 is_letter)) UnitR mk_device

and-true : (a b : Bool) → a && b ≡ true → (a ≡ true) × (b ≡ true)
and-true true b e = (refl, e)
and-true false true e = (e, refl)
and-true false false e = (e, e)

octal_not_letter : (x : ℕ) → is_octal x ≡ true → is_letter x ≡ false
octal_not_letter x e = let h : x ≤ 55 = leb-true x 55 (and-true (leb 48 x) (leb x 55) e).1 in rw (lt-leb 65 x (omega arith))

unit_stop : (q rest b : List ℕ) → UnitR q b → Any rest → Stop is_letter (q ++ rest)
unit_stop q rest b (both (of nil) chr) h = at refl
unit_stop q rest b (both (of (cons {c} e a)) chr) h = at (octal_not_letter c e)

device_reads : IsReader DeviceR Any device
unfolding device
device_reads = seq_reads mk_device (run_reads 2 3 is_letter 65 refl (omega arith))
    (seq_reads first (any_reads is_octal 48 refl) (chr_reads colon) (λ q rest b y h. begun (Stop is_octal) (is_out colon is_octal refl) rest (chr_first colon q b y)))
    unit_stop

device_to : (s : List ℕ) (d : Device) → DeviceR s d → IsDevice s (some d)
device_to s d (both (of l) (both (of u) chr)) = G.IsDevice.device l u

-- the two
abbrev pub HeadR : List ℕ → Head → Type 0
HeadR = SeqR IsDevice IsFile mk_head

head_seq : (s : List ℕ) (h : Head) → SeqR DeviceR IsFile (λ d. mk_head (some d)) s h → HeadR s h
head_seq s h (both {s = p} {a = d} x y) = both (device_to p d x) y

head_mapped : (s : List ℕ) (r : Res (Option FileName)) → Sound IsFile s r → Sound HeadR s (mapped (mk_head none) r)
head_mapped s (ok f n) h = (h.0, both G.IsDevice.absent h.1)
head_mapped s (no n) h = (h.0, (h.1.0, mk_head none h.1.1, both G.IsDevice.absent h.1.2))

head_pick : (b : Bool) (s : List ℕ) (k : ℕ) → Sound DeviceR s (no k) → Sound HeadR s (cond b (mapped (mk_head none) (file s)) (no k))
head_pick true s k h = head_mapped s (file s) (file_reads.sound s)
head_pick false s k h =
    let w : HeadR (take k s ++ h.1.0 ++ []) (mk_head (some h.1.1) none) = both (device_to (take k s ++ h.1.0) h.1.1 h.1.2) G.IsFile.absent in
    (h.0, (h.1.0, mk_head (some h.1.1) none, rw append-nil at w))

head_sound : (s : List ℕ) (r : Res Device) → Sound DeviceR s r → Sound HeadR s (head_from s r)
unfolding head_from
head_sound s (ok d n) h =
    sound_as head_seq s (later n (mk_head (some d)) (file (drop n s)))
    (seq_later DeviceR IsFile file (λ d. mk_head (some d)) file_reads.sound [] none G.IsFile.absent s d n h.0 h.1 (file (drop n s)) (file_reads.sound (drop n s)))
head_sound s (no k) h = head_pick (leb k (span is_letter_or_digit 6 s)) s k h

-- it looks at no character behind the first that is not used

later_agree : {A B : Type 0} (n : ℕ) (f : A → B) (s t : List ℕ) (r : Res A) → Agree (suc (used (later n f r))) s t → Agree (suc n) s t × Agree (suc (used r)) (drop n s) (drop n t)
later_agree n f s t (ok a m) h = (agree_less (suc n) (omega arith) h, agree_drop n (suc m) s t (rw add-suc h))
later_agree n f s t (no m) h = (agree_less (suc n) (omega arith) h, agree_drop n (suc m) s t (rw add-suc h))

used_mapped : {A B : Type 0} (f : A → B) (r : Res A) → used (mapped f r) ≡ used r
used_mapped f (ok a n) = refl
used_mapped f (no n) = refl

seq_used : {A B C : Type 0} (k : A → B → C) (g : List ℕ → Res B) (s : List ℕ) (r : Res A) → used r ≤ used (and_then k g s r)
seq_used k g s (ok a n) = go (g (drop n s))
  where
    go : (r : Res _) → n ≤ used (later n (k a) r)
    go (ok b m) = omega arith
    go (no m) = omega arith
seq_used k g s (no n) = omega arith

word_used : (a : ℕ) (n : List ℕ → ℕ) (s : List ℕ) → used (word a n s) ≡ n s
unfolding word
word_used a n s = go (leb a (n s))
  where
    go : (b : Bool) → used (cond b (ok (take (n s) s) (n s)) (no (n s))) ≡ n s
    go true = refl
    go false = refl

name_pick : (E : List ℕ → Res (Option (List ℕ))) (b : Bool) (x : ℕ) (s : List ℕ) → is_letter_or_digit x ≡ b →
    span is_letter_or_digit 6 (x ∷ s) ≤ used (cond b (mapped some (seq mk_file (word 1 (span is_letter_or_digit 6)) E (x ∷ s))) (ok none 0))
unfolding span
name_pick E true x s e = rw used_mapped (rw (← (word_used 1 (span is_letter_or_digit 6) (x ∷ s))) (seq_used mk_file E (x ∷ s) (word 1 (span is_letter_or_digit 6) (x ∷ s))))
name_pick E false x s e = rw e (omega arith)

name_used : (s : List ℕ) → span is_letter_or_digit 6 s ≤ used (file s)
unfolding file opt span
name_used [] = omega arith
name_used (x ∷ s) = name_pick (opt (is period) (seq second (one_character (is period)) (word 1 (span is_letter_or_digit 3)))) (is_letter_or_digit x) x s refl

near_pick : (s t : List ℕ) (k : ℕ) (b : Bool) → leb k (span is_letter_or_digit 6 s) ≡ b → device s ≡ no k → Agree (suc (used (cond b (mapped (mk_head none) (file s)) (no k)))) s t
    → head_from t (device t) ≡ cond b (mapped (mk_head none) (file s)) (no k)
unfolding head_from
near_pick s t k true e d h =
    let h₁ : Agree (suc (used (file s))) s t = rw used_mapped at h in
    let l : k ≤ span is_letter_or_digit 6 s = leb-true k (span is_letter_or_digit 6 s) e in
    rw (
      device_reads.near s t (rw d (agree_less (suc k) (omega (arith, name_used s)) h₁)),
      d,
      span_close is_letter_or_digit 6 s t (agree_less (suc (span is_letter_or_digit 6 s)) (omega (arith, name_used s)) h₁),
      e,
      file_reads.near s t h₁,
    )
near_pick s t k false e d h =
    let l : span is_letter_or_digit 6 s < k = leb-false k (span is_letter_or_digit 6 s) e in
    rw (device_reads.near s t (rw d h), d, span_close is_letter_or_digit 6 s t (agree_less (suc (span is_letter_or_digit 6 s)) (omega arith) h), e)

head_near : (s t : List ℕ) (r : Res Device) → device s ≡ r → Agree (suc (used (head_from s r))) s t → head_from t (device t) ≡ head_from s r
unfolding head_from
head_near s t (ok d n) e h =
    let a = later_agree n (mk_head (some d)) s t (file (drop n s)) h in
    rw (device_reads.near s t (rw e a.0), e, file_reads.near (drop n s) (drop n t) a.1)
head_near s t (no k) e h = near_pick s t k (leb k (span is_letter_or_digit 6 s)) refl e h

-- where no device stands, none is read, and it is refused within the name

-- letters and digits, up to a name's 6, and then none of them, and no colon
abbrev behind_name : List ℕ
behind_name = period ∷ after_head

data Plain : List ℕ → Type 0 where
  plain : {x y : List ℕ} → All is_letter_or_digit x → length x ≤ 6 → Next behind_name y → Plain (x ++ y)

file_plain : (p rest : List ℕ) (f : Option FileName) → IsFile p f → Next after_head rest → Plain (p ++ rest)
file_plain p rest f G.IsFile.absent h = plain nil (omega arith) (next_sub after_head behind_name refl rest h)
file_plain p rest f (G.IsFile.name r) h = plain r.all r.most (next_sub after_head behind_name refl rest h)
file_plain p rest f (G.IsFile.extended {n} {e} r x) h = rw append_assoc (plain r.all r.most (next refl))

differ : {x y : ℕ} {s t : List ℕ} → x ∷ s ≡ y ∷ t → (P : ℕ → Bool) → P x ≡ true → P y ≡ false → ⊥
differ e P a b = let z : ◌≡◌ {A = ℕ} 0 1 = cc in omega arith

-- a letter or digit is not what stands behind a name, and neither is a colon
out : (x : ℕ) → elem x behind_name ≡ true → is_letter_or_digit x ≡ true → ⊥
out x e a = let b : is_letter_or_digit x ≡ false = not-true (is_letter_or_digit x) (holds (λ c. not (is_letter_or_digit c)) x behind_name e refl) in let z : ◌≡◌ {A = ℕ}
    0 1 = cc in omega arith

out_colon : (x : ℕ) (s z : List ℕ) → elem x behind_name ≡ true → x ∷ s ≡ colon ∷ z → ⊥
out_colon x s z e h = differ h (λ c. elem c behind_name) e refl

not_nil : {x : ℕ} {s : List ℕ} → ◌≡◌ {A = List ℕ} [] (x ∷ s) → ⊥
not_nil e = let z : ◌≡◌ {A = ℕ} 0 1 = cc in omega arith

clash : (x y w z : List ℕ) → All is_letter_or_digit x → Next behind_name y → All is_letter_or_digit w → x ++ y ≡ w ++ (colon ∷ z) → ⊥
clash x y w z nil final nil e = not_nil e
clash x y w z nil (next {x = c} {s} h) nil e = out_colon c s z h e
clash x y w z nil final (cons d b) e = not_nil e
clash x y w z nil (next {x = c} h) (cons {c = c'} d b) e = let q : c ≡ c' = cc in out c h (rw q d)
clash x y w z (cons d a) n nil e = differ e is_letter_or_digit d refl
clash x y w z (cons {s = x'} d a) n (cons {s = w'} d' b) e = clash x' y w' z a n b (cc)

-- a beginning of w and a colon: all of it, or of w
split_cons : (c c' : ℕ) (u v : List ℕ) → c ≡ c' → is_letter_or_digit c' ≡ true → All is_letter_or_digit u ⊎ (u ≡ v) → All is_letter_or_digit (c ∷ u) ⊎ (c ∷ u ≡ c' ∷ v)
split_cons c c' u v q d (inl a) = inl (cons {c = c} (rw q d) a)
split_cons c c' u v q d (inr e) = inr (cc)

split : (u t w : List ℕ) → All is_letter_or_digit w → u ++ t ≡ w ++ (colon ∷ []) → All is_letter_or_digit u ⊎ (u ≡ w ++ (colon ∷ []))
split [] t w a e = inl nil
split (c ∷ []) t w nil e = inr (cc)
split (c ∷ (c₂ ∷ u)) t w nil e = let z : ◌≡◌ {A = ℕ} 0 1 = cc in absurd (omega arith)
split (c ∷ []) t w (cons {c = c'} {s = w'} d a) e = split_cons c c' [] (w' ++ (colon ∷ [])) (cc) d (inl nil)
split (c ∷ (c₂ ∷ u)) t w (cons {c = c'} {s = w'} d a) e = split_cons c c' (c₂ ∷ u) (w' ++ (colon ∷ [])) (cc) d (split (c₂ ∷ u) t w' a (cc))

within_name : (k : ℕ) (x y : List ℕ) → All is_letter_or_digit x → Next behind_name y → k ≤ length (x ++ y) → All is_letter_or_digit (take k (x ++ y)) → k ≤ length x
within_name zero x y a n l h = omega arith
within_name (suc k) x y nil final l h = l
within_name (suc k) x y nil (next {x = c} e) l (cons d h) = absurd (out c e d)
within_name (suc k) x y (cons {s = x'} d a) n l (cons d' h) = omega (arith, within_name k x' y a n (le_of_suc-le-suc l) h)

pub letter_alnum : (x : ℕ) → is_letter x ≡ true → is_letter_or_digit x ≡ true
letter_alnum x e = rw e

octal_alnum : (x : ℕ) → is_octal x ≡ true → is_letter_or_digit x ≡ true
octal_alnum x e =
    let a = and-true (leb 48 x) (leb x 55) e in
    let h : x ≤ 55 = leb-true x 55 a.1 in
    rw (octal_not_letter x e, a.0, le-leb x 57 (omega arith))

all_weaker : (t t' : ℕ → Bool) → ((x : ℕ) → t x ≡ true → t' x ≡ true) → {s : List ℕ} → All t s → All t' s
all_weaker t t' f nil = nil
all_weaker t t' f (cons {c} e a) = cons (f c e) (all_weaker t t' f a)

device_word_law : (p : List ℕ) (d : Device) → DeviceR p d → (w : List ℕ) × (p ≡ w ++ (colon ∷ [])) × All is_letter_or_digit w
device_word_law p d (both {s = l} (of r) (both {s = u} (of o) chr)) =
    (l ++ u, sym (append_assoc l u (colon ∷ [])), all_append (all_weaker is_letter is_letter_or_digit letter_alnum r.all) (all_weaker is_octal is_letter_or_digit octal_alnum o))

no_device : (x y w : List ℕ) (n : ℕ) → All is_letter_or_digit x → Next behind_name y → All is_letter_or_digit w → take n (x ++ y) ≡ w ++ (colon ∷ []) → ⊥
no_device x y w n a b c e = clash x y w (drop n (x ++ y)) a b c
    (sym (take-append-drop n (x ++ y)) ∙ ap (λ (l : List ℕ). l ++ drop n (x ++ y)) e ∙ append_assoc w (colon ∷ []) (drop n (x ++ y)))

refused_within : (x y w : List ℕ) (k : ℕ) → All is_letter_or_digit x → Next behind_name y → All is_letter_or_digit w → k ≤ length (x ++ y)
    → All is_letter_or_digit (take k (x ++ y)) ⊎ (take k (x ++ y) ≡ w ++ (colon ∷ [])) → k ≤ length x
refused_within x y w k a b c l (inl h) = within_name k x y a b l h
refused_within x y w k a b c l (inr e) = absurd (no_device x y w k a b c e)

device_plain : (s : List ℕ) → Plain s → (r : Res Device) → Sound DeviceR s r → (k : ℕ) × (r ≡ no k) × (k ≤ span is_letter_or_digit 6 s)
device_plain s (plain {x} {y} a l b) (ok d n) h =
    let w = device_word_law (take n (x ++ y)) d h.1 in absurd (no_device x y w.0 n a b w.2 w.1)
device_plain s (plain {x} {y} a l b) (no k) h =
    let w = device_word_law (take k (x ++ y) ++ h.1.0) h.1.1 h.1.2 in (
      k,
      refl,
      rw (span_stops is_letter_or_digit 6 x y a l (next_stop is_letter_or_digit behind_name refl y b))
          (refused_within x y w.0 k a b w.2 h.0 (split (take k (x ++ y)) h.1.0 w.0 w.2 w.1)),
    )

head_device : (p q rest : List ℕ) (d : Device) (f : Option FileName) → DeviceR p d → IsFile q f → Next after_head rest → head (p ++ q ++ rest) ≡ ok (mk_head (some d) f) (length (p ++ q))
unfolding head head_from
head_device p q rest d f x y h = rw (append_assoc p q rest, device_reads.complete p (q ++ rest) d x tt, drop-append_seam p (q ++ rest), file_reads.complete q rest f y h, length-append p q)

head_complete : (p rest : List ℕ) (v : Head) → HeadR p v → Next after_head rest → head (p ++ rest) ≡ ok v (length p)
unfolding head head_from
head_complete p rest v (both {t = q} {b = f} G.IsDevice.absent y) h =
    let k = device_plain (q ++ rest) (file_plain q rest f y h) (device (q ++ rest)) (device_reads.sound (q ++ rest)) in
    rw (k.1, le-leb k.0 (span is_letter_or_digit 6 (q ++ rest)) k.2, file_reads.complete q rest f y h)
head_complete p rest v (both {t = q} {b = f} (G.IsDevice.device {l} {u} r o) y) h =
    head_device (l ++ (u ++ (colon ∷ []))) q rest (mk_device l u) f (both (of r) (both (of o) chr)) y h

pub head_reads : IsReader HeadR (Next after_head) head
unfolding head
head_reads = record { sound = λ s. head_sound s (device s) (device_reads.sound s); near = λ s t h. head_near s t (device s) refl h; complete = head_complete }
