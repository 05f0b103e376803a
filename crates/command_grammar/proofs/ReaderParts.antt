-- The readers of the grammar's parts read what its rules say.
use Prim.Native.Nat.{ℕ}
use mathlib.Core.Path.{◌≡◌, refl, sym, subst}
use mathlib.Core.List.{List, [], ◌∷◌, ◌++◌, append_assoc}
use mathlib.Core.Option.{Option}
use mathlib.Core.Bool.{Bool, true, false, not, ◌&&◌, ◌||◌}
use native.Mathlib.Omega.{arith}
use borrow.Author.Tests.{eqb-true, eq-eqb, not-true}
use lib.Dec.{eqb}
use Rattle.radix.specs.Names.{is_letter, is_letter_or_digit}
use Rattle.command_grammar.specs.LineCharacters.{is_octal, comma, slash, colon, less, opening, closing}
use Rattle.command_grammar.specs.Parsed.{Switch, Uic}
use Rattle.command_grammar.specs.Grammar.{Between, Some, IsUic, AreValues, IsSwitch, AreSwitches}
use Rattle.command_grammar.specs.Grammar as G
use Rattle.command_grammar.specs.Reader.{is, opt, many, one_character, first, second, mk_uic, mk_switch, uic, switch_value, switch}
use Rattle.command_grammar.proofs.ReaderTheory.{IsReader, reads_as, SeqR, both, seq_reads, Stop, over, at, Begins, begins, OptR, absent, present, opt_reads, ManyR, finish, more, many_reads}
use Rattle.command_grammar.proofs.ReaderLeaves.{OneR, single, Any, one_reads, Word, of, run_reads, some_reads}

-- a character c

pub data ChrR (c : ℕ) : List ℕ → ℕ → Type 0 where
  chr : ChrR c (c ∷ []) c

chr_to : (c : ℕ) (s : List ℕ) (x : ℕ) → OneR (is c) s x → ChrR c s x
chr_to c s x (single e) = subst (λ (y : ℕ). ChrR c (y ∷ []) y) (sym (eqb-true x c e)) chr

chr_from : (c : ℕ) (s : List ℕ) (x : ℕ) → ChrR c s x → OneR (is c) s x
chr_from c s x chr = single (eq-eqb c c refl)

pub chr_reads : (c : ℕ) → IsReader (ChrR c) Any (one_character (is c))
chr_reads c = reads_as (chr_to c) (chr_from c) (λ s h. h) (one_reads (is c) c (eq-eqb c c refl))

-- the next character, if any, is one of a list

abbrev pub elem : ℕ → List ℕ → Bool
elem x [] = false
elem x (c ∷ cs) = eqb x c || elem x cs

abbrev pub every : (ℕ → Bool) → List ℕ → Bool
every P [] = true
every P (c ∷ cs) = P c && every P cs

pub data Next (cs : List ℕ) : List ℕ → Type 0 where
  final : Next cs []
  next : {x : ℕ} {s : List ℕ} → elem x cs ≡ true → Next cs (x ∷ s)

and_left : (a b : Bool) → a && b ≡ true → a ≡ true
and_left true b e = refl
and_left false b e = e

and_right : (a b : Bool) → a && b ≡ true → b ≡ true
and_right true b e = e
and_right false true e = refl
and_right false false e = e

holds_pick : (P : ℕ → Bool) (x c : ℕ) (r : Bool) (b : Bool) → eqb x c ≡ b → b || r ≡ true → P c ≡ true → (r ≡ true → P x ≡ true) → P x ≡ true
holds_pick P x c r true e d h f = rw (eqb-true x c e) h
holds_pick P x c r false e d h f = f d

pub holds : (P : ℕ → Bool) (x : ℕ) (cs : List ℕ) → elem x cs ≡ true → every P cs ≡ true → P x ≡ true
holds P x [] e h = let z : ◌≡◌ {A = ℕ} 0 1 = cc in absurd (omega arith)
holds P x (c ∷ cs) e h = holds_pick P x c (elem x cs) (eqb x c) refl e (and_left (P c) (every P cs) h) (λ d. holds P x cs d (and_right (P c) (every P cs) h))

-- each side condition below is a test that antt computes
pub next_stop : (t : ℕ → Bool) (cs : List ℕ) → every (λ c. not (t c)) cs ≡ true → (s : List ℕ) → Next cs s → Stop t s
next_stop t cs e s final = over
next_stop t cs e s (next {x} h) = at (not-true (t x) (holds (λ c. not (t c)) x cs h e))

pub next_sub : (cs ds : List ℕ) → every (λ c. elem c ds) cs ≡ true → (s : List ℕ) → Next cs s → Next ds s
next_sub cs ds e s final = final
next_sub cs ds e s (next {x} h) = next (holds (λ c. elem c ds) x cs h e)

pub is_out : (c : ℕ) (t : ℕ → Bool) → t c ≡ false → (x : ℕ) (s : List ℕ) → is c x ≡ true → Stop t (x ∷ s)
is_out c t e x s h = at {x = x} (rw (eqb-true x c h) e)

pub is_in : (c : ℕ) (cs : List ℕ) → elem c cs ≡ true → (x : ℕ) (s : List ℕ) → is c x ≡ true → Next cs (x ∷ s)
is_in c cs e x s h = next {x = x} (rw (eqb-true x c h) e)

-- what a part begins with, and so what stands behind the part before it

pub begun : {u : ℕ → Bool} (S : List ℕ → Type 0) → ((x : ℕ) (s : List ℕ) → u x ≡ true → S (x ∷ s)) → {q : List ℕ} (rest : List ℕ) → Begins u q → S (q ++ rest)
begun S again rest (begins {x} {s} e) = again x (s ++ rest) e

pub chr_first : (c : ℕ) (p : List ℕ) (a : ℕ) → ChrR c p a → Begins (is c) p
chr_first c p a chr = begins (eq-eqb c c refl)

longer : {u : ℕ → Bool} {s : List ℕ} (t : List ℕ) → Begins u s → Begins u (s ++ t)
longer t (begins e) = begins e

pub seq_first : {A B C : Type 0} {u : ℕ → Bool} (X : List ℕ → A → Type 0) (Y : List ℕ → B → Type 0) (k : A → B → C)
    → ((p : List ℕ) (a : A) → X p a → Begins u p) → (p : List ℕ) (c : C)
    → SeqR X Y k p c → Begins u p
seq_first X Y k f p c (both {s} {t} {a} x y) = longer t (f s a x)

pub opt_behind : {A : Type 0} {X : List ℕ → A → Type 0} {u : ℕ → Bool} (S : List ℕ → Type 0) → ((p : List ℕ) (a : A) → X p a → Begins u p)
    → ((x : ℕ) (s : List ℕ) → u x ≡ true → S (x ∷ s))
    → (q rest : List ℕ) (b : Option A) → OptR X q b → S rest → S (q ++ rest)
opt_behind S f again q rest b absent h = h
opt_behind S f again q rest b (present {s} {a} x) h = begun S again rest (f s a x)

pub many_behind : {A : Type 0} {X : List ℕ → A → Type 0} {u : ℕ → Bool} (S : List ℕ → Type 0) → ((p : List ℕ) (a : A) → X p a → Begins u p)
    → ((x : ℕ) (s : List ℕ) → u x ≡ true → S (x ∷ s))
    → (q rest : List ℕ) (b : List A) → ManyR X q b → S rest → S (q ++ rest)
many_behind S f again q rest b finish h = h
many_behind S f again q rest b (more {s} {t} {a} x y) h = rw append_assoc (begun S again (t ++ rest) (f s a x))

-- `[`, digits, `,`, digits, `]`

abbrev AfterComma : List ℕ → List ℕ → Type 0
AfterComma = SeqR (ChrR comma) (SeqR (Word (Some is_octal)) (ChrR closing) first) second

abbrev pub UicR : List ℕ → Uic → Type 0
UicR = SeqR (ChrR opening) (SeqR (Word (Some is_octal)) AfterComma mk_uic) second

uic_reads : IsReader UicR Any uic
unfolding uic
uic_reads =
    seq_reads second (chr_reads opening)
    (seq_reads mk_uic (some_reads is_octal 48 refl)
    (seq_reads second (chr_reads comma)
    (seq_reads first (some_reads is_octal 48 refl) (chr_reads closing) (λ q rest b y h. begun (Stop is_octal) (is_out closing is_octal refl) rest (chr_first closing q b y)))
    (λ q rest b y h. tt))
    (λ q rest b y h. begun (Stop is_octal) (is_out comma is_octal refl) rest (seq_first (ChrR comma) (SeqR (Word (Some is_octal)) (ChrR closing) first) second (chr_first comma) q b y)))
    (λ q rest b y h. tt)

uic_first : (p : List ℕ) (a : Uic) → UicR p a → Begins (is opening) p
uic_first = seq_first (ChrR opening) (SeqR (Word (Some is_octal)) AfterComma mk_uic) second (chr_first opening)

uic_to : (s : List ℕ) (o : Option Uic) → OptR UicR s o → IsUic s o
uic_to s o absent = G.IsUic.absent
uic_to s o (present (both chr (both (of g) (both chr (both (of u) chr))))) = G.IsUic.uic g u

uic_from : (s : List ℕ) (o : Option Uic) → IsUic s o → OptR UicR s o
uic_from s o G.IsUic.absent = absent
uic_from s o (G.IsUic.uic g u) = present (both chr (both (of g) (both chr (both (of u) chr))))

-- what may stand behind the parts of a specification
abbrev pub after_spec : List ℕ
after_spec = comma ∷ less ∷ []

abbrev pub after_uic : List ℕ
after_uic = slash ∷ comma ∷ less ∷ []

abbrev pub after_head : List ℕ
after_head = opening ∷ slash ∷ comma ∷ less ∷ []

pub uic_part : IsReader IsUic (Next after_uic) (opt (is opening) uic)
uic_part = reads_as uic_to uic_from (λ s h. (tt, next_stop (is opening) after_uic refl s h)) (opt_reads (is opening) uic_reads uic_first)

-- the values of a switch

abbrev pub ValueR : List ℕ → List ℕ → Type 0
ValueR = SeqR (ChrR colon) (Word (Between 1 6 is_letter_or_digit)) second

pub value_reads : IsReader ValueR (Stop is_letter_or_digit) switch_value
unfolding switch_value
value_reads = seq_reads second (chr_reads colon) (run_reads 1 6 is_letter_or_digit 65 refl (omega arith)) (λ q rest b y h. tt)

pub value_first : (p a : List ℕ) → ValueR p a → Begins (is colon) p
value_first = seq_first (ChrR colon) (Word (Between 1 6 is_letter_or_digit)) second (chr_first colon)

values_to : (s : List ℕ) (o : List (List ℕ)) → ManyR ValueR s o → AreValues s o
values_to s o finish = G.AreValues.end
values_to s o (more {t} {b} (both chr (of r)) y) = G.AreValues.more r (values_to t b y)

values_from : (s : List ℕ) (o : List (List ℕ)) → AreValues s o → ManyR ValueR s o
values_from s o G.AreValues.end = finish
values_from s o (G.AreValues.more {s = t} {vs = b} r y) = more (both chr (of r)) (values_from t b y)

abbrev SwitchNameR : List ℕ → List ℕ → Type 0
SwitchNameR = SeqR (OneR is_letter) (Word (Between 0 5 is_letter_or_digit)) ◌∷◌

abbrev SwitchR : List ℕ → Switch → Type 0
SwitchR = SeqR (ChrR slash) (SeqR SwitchNameR (ManyR ValueR) mk_switch) second

switch_reads : IsReader SwitchR (λ s. Stop is_letter_or_digit s × Stop (is colon) s) switch
unfolding switch
switch_reads =
    seq_reads second (chr_reads slash)
    (seq_reads mk_switch
    (seq_reads ◌∷◌ (one_reads is_letter 65 refl) (run_reads 0 5 is_letter_or_digit 65 refl (omega arith)) (λ q rest b y h. tt))
    (many_reads (is colon) value_reads value_first (is_out colon is_letter_or_digit refl))
    (λ q rest b y h. many_behind (Stop is_letter_or_digit) value_first (is_out colon is_letter_or_digit refl) q rest b y h.0))
    (λ q rest b y h. tt)

switch_to : (s : List ℕ) (o : Switch) → SwitchR s o → IsSwitch s o
switch_to s o (both chr (both {b} (both (single e) (of n)) (v))) = G.IsSwitch.switch e n (values_to _ b v)

switch_from : (s : List ℕ) (o : Switch) → IsSwitch s o → SwitchR s o
switch_from s o (G.IsSwitch.switch {s = t} {vs} e n v) = both chr (both (both (single e) (of n)) (values_from t vs v))

pub switch_part : IsReader IsSwitch (Next after_uic) switch
switch_part = reads_as switch_to switch_from (λ s h. (next_stop is_letter_or_digit after_uic refl s h, next_stop (is colon) after_uic refl s h)) switch_reads

pub switch_first : (p : List ℕ) (a : Switch) → IsSwitch p a → Begins (is slash) p
switch_first p a (G.IsSwitch.switch e n v) = begins refl

switches_to : (s : List ℕ) (o : List Switch) → ManyR IsSwitch s o → AreSwitches s o
switches_to s o finish = G.AreSwitches.end
switches_to s o (more {t} {b} x y) = G.AreSwitches.more x (switches_to t b y)

switches_from : (s : List ℕ) (o : List Switch) → AreSwitches s o → ManyR IsSwitch s o
switches_from s o G.AreSwitches.end = finish
switches_from s o (G.AreSwitches.more {t} {ws} x y) = more x (switches_from t ws y)

pub switches_part : IsReader AreSwitches (Next after_spec) (many (is slash) switch)
switches_part = reads_as switches_to switches_from (λ s h. (next_sub after_spec after_uic refl s h, next_stop (is slash) after_spec refl s h))
    (many_reads (is slash) switch_part switch_first (is_in slash after_uic refl))
