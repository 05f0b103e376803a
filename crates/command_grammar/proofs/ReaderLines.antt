-- Specifications, sides, commands, and the whole line.
use Prim.Native.Nat.{ℕ, suc, ◌≤◌, ◌<◌}
use mathlib.Core.Path.{◌≡◌, refl, sym, ap, ◌∙◌, subst}
use mathlib.Core.Logic.{◌⊎◌, inl, inr}
use mathlib.Core.List.{List, [], ◌∷◌, ◌++◌, append_assoc, append-nil}
use mathlib.Core.Option.{none}
use mathlib.Core.Bool.{Bool, true, false, cond}
use native.Mathlib.Omega.{arith}
use borrow.Author.Tests.{eqb-true, eqb-false, eq-eqb}
use lib.Dec.{eqb}
use lib.ListN.{length, take, length-append}
use lib.Seq.{length-take-le, take-length}
use Rattle.command_grammar.specs.LineCharacters.{comma, less}
use Rattle.command_grammar.specs.Parsed.{Switch, Specification, Parsed}
use Rattle.command_grammar.specs.Grammar.{IsUic, AreSwitches, IsSwitch, IsSpecification, IsSide, Command}
use Rattle.command_grammar.specs.LinePlace.{Viable, Wrong, LinePlace}
use Rattle.command_grammar.specs.Grammar as G
use Rattle.command_grammar.specs.Reader.{is, Res, ok, no, used, second, Tail, mk_tail, mk_specification, mk_reading, specification, side, command, whole_from, read_line}
use Rattle.command_grammar.proofs.ReaderAgree.{agree_take}
use Rattle.command_grammar.proofs.LinePlace.{viable_shorter}
use Rattle.command_grammar.proofs.ReaderTheory.{Sound, IsReader, reads_as, SeqR, both, seq_reads, Begins, OptR, absent, present, opt_reads, ManyR, finish, more, many_reads}
use Rattle.command_grammar.proofs.ReaderParts.{ChrR, chr, chr_reads, chr_first, Next, final, next, next_stop, next_sub}
use Rattle.command_grammar.proofs.ReaderParts.{is_in, seq_first, opt_behind, many_behind, after_spec, after_uic, after_head, uic_part, switches_part}
use Rattle.command_grammar.proofs.ReaderHeads.{HeadR, head_reads}

-- specifications

abbrev TailR : List ℕ → Tail → Type 0
TailR = SeqR IsUic AreSwitches mk_tail

abbrev SpecificationR : List ℕ → Specification → Type 0
SpecificationR = SeqR HeadR TailR mk_specification

-- what switches begin with, or what stands behind them
switches_behind : (q rest : List ℕ) (b : List Switch) → AreSwitches q b → Next after_spec rest → Next after_uic (q ++ rest)
switches_behind q rest b G.AreSwitches.end h = next_sub after_spec after_uic refl rest h
switches_behind q rest b (G.AreSwitches.more (G.IsSwitch.switch e n v) y) h = next refl

tail_behind : (q rest : List ℕ) (b : Tail) → TailR q b → Next after_spec rest → Next after_head (q ++ rest)
tail_behind q rest b (both {t} {b = w} G.IsUic.absent y) h = next_sub after_uic after_head refl (t ++ rest) (switches_behind t rest w y h)
tail_behind q rest b (both (G.IsUic.uic g u) y) h = next refl

specification_to : (s : List ℕ) (v : Specification) → SpecificationR s v → IsSpecification s v
specification_to s v (both (both x y) (both z w)) = rw append_assoc (G.IsSpecification.specification x y z w)

specification_from : (s : List ℕ) (v : Specification) → IsSpecification s v → SpecificationR s v
specification_from s v (G.IsSpecification.specification {a} {b} {c} {e} x y z w) = rw (← (append_assoc a b (c ++ e))) (both (both x y) (both z w))

pub specification_reads : IsReader IsSpecification (Next after_spec) specification
unfolding specification
specification_reads = reads_as specification_to specification_from (λ s h. h) (seq_reads mk_specification head_reads (seq_reads mk_tail uic_part switches_part switches_behind) tail_behind)

-- sides

abbrev pub NextR : List ℕ → Specification → Type 0
NextR = SeqR (ChrR comma) IsSpecification second

abbrev SideR : List ℕ → List Specification → Type 0
SideR = SeqR IsSpecification (ManyR NextR) ◌∷◌

abbrev after_side : List ℕ
after_side = less ∷ []

pub next_first : (p : List ℕ) (a : Specification) → NextR p a → Begins (is comma) p
next_first = seq_first (ChrR comma) IsSpecification second (chr_first comma)

side_more : (s t : List ℕ) (v : Specification) (vs : List Specification) → IsSpecification s v → ManyR NextR t vs → IsSide (s ++ t) (v ∷ vs)
side_more s t v vs x finish = rw append-nil (G.IsSide.one x)
side_more s t v vs x (more {t = t₁} {b = vs₁} (both {t = s₁} {b = v₁} chr y) z) = G.IsSide.more x (side_more s₁ t₁ v₁ vs₁ y z)

side_to : (s : List ℕ) (v : List Specification) → SideR s v → IsSide s v
side_to s v (both {s = s₁} {t} {a} {b} x y) = side_more s₁ t a b x y

side_cons : (s t : List ℕ) (v : Specification) (vs : List Specification) → IsSpecification s v → SideR t vs → SideR (s ++ (comma ∷ t)) (v ∷ vs)
side_cons s t v vs x (both y z) = both x (more (both chr y) z)

side_from : (s : List ℕ) (v : List Specification) → IsSide s v → SideR s v
side_from s v (G.IsSide.one {v = a} x) = let w : SideR (s ++ []) (a ∷ []) = both x finish in rw append-nil at w
side_from s v (G.IsSide.more {s = s₁} {t} {v = a} {vs} x y) = side_cons s₁ t a vs x (side_from t vs y)

pub side_reads : IsReader IsSide (Next after_side) side
unfolding side
side_reads = reads_as side_to side_from (λ s h. (next_sub after_side after_spec refl s h, next_stop (is comma) after_side refl s h))
    (seq_reads ◌∷◌ specification_reads
    (many_reads (is comma) (seq_reads second (chr_reads comma) specification_reads (λ q rest b y h. tt)) next_first (is_in comma after_spec refl))
    (λ q rest b y h. many_behind (Next after_spec) next_first (is_in comma after_spec refl) q rest b y h.0))

-- commands

abbrev InputR : List ℕ → List Specification → Type 0
InputR = SeqR (ChrR less) IsSide second

abbrev CommandR : List ℕ → Parsed → Type 0
CommandR = SeqR IsSide (OptR InputR) mk_reading

input_first : (p : List ℕ) (a : List Specification) → InputR p a → Begins (is less) p
input_first = seq_first (ChrR less) IsSide second (chr_first less)

command_to : (s : List ℕ) (r : Parsed) → CommandR s r → Command s r
command_to s r (both x absent) = rw append-nil (G.Command.output x)
command_to s r (both x (present (both chr y))) = G.Command.both x y

command_from : (s : List ℕ) (r : Parsed) → Command s r → CommandR s r
command_from s r (G.Command.output {o} x) = let w : CommandR (s ++ []) (mk_reading o none) = both x absent in rw append-nil at w
command_from s r (G.Command.both x y) = both x (present (both chr y))

pub command_reads : IsReader Command (Next []) command
unfolding command
command_reads = reads_as command_to command_from (λ s h. (next_sub [] after_side refl s h, next_stop (is less) [] refl s h))
    (seq_reads mk_reading side_reads
    (opt_reads (is less) (seq_reads second (chr_reads less) side_reads (λ q rest b y h. tt)) input_first)
    (λ q rest b y h. opt_behind (Next after_side) input_first (is_in less after_side refl) q rest b y h.0))

-- the whole line

-- a line of the grammar is read as its reading
pub accepted : (s : List ℕ) (r : Parsed) → Command s r → read_line s ≡ ok r (length s)
unfolding read_line whole_from
accepted s r x = let e : command s ≡ ok r (length s) = rw append-nil at (command_reads.complete s [] r x final) in rw (e, eq-eqb (length s) (length s) refl)

-- no line says two things
pub one_saying : (s : List ℕ) (r q : Parsed) → Command s r → Command s q → r ≡ q
one_saying s r q x y = let a = accepted s r x in let b = accepted s q y in cc

-- what is read is a line of the grammar; a refusal has the place of the first character with which no command could go on
abbrev pub Right : List ℕ → Res Parsed → Type 0
Right s (ok r n) = Command s r × (n ≡ length s)
Right s (no n) = LinePlace s n

whole : (s : List ℕ) (r : Parsed) → Command s r → command s ≡ ok r (length s)
whole s r x = rw append-nil at (command_reads.complete s [] r x final)

-- what goes on behind the place begins no line
exact : (s : List ℕ) (n : ℕ) → used (command s) ≡ n → n < length s → Viable (take (suc n) s) → ⊥
unfolding Viable
exact s n e l v =
    let t = v.0 in
    let p = take (suc n) s ++ t in
    let same_answer : command p ≡ command s = command_reads.near s p (rw e (agree_take n s t l)) in
    let all-of-it : command p ≡ ok v.1 (length p) = whole p v.1 v.2 in
    let u : used (command s) ≡ length p = ap used (sym same_answer ∙ all-of-it) in
    omega (arith, length-append (take (suc n) s) t, length-take-le (suc n) s l)

longer : (s : List ℕ) (n : ℕ) → used (command s) ≡ n → (m : ℕ) → n < m → m ≤ length s → Viable (take m s) → ⊥
longer s n e m high within v = exact s n e (omega arith) (viable_shorter s (suc n) m high v)

right_ok : (s : List ℕ) (r : Parsed) (n : ℕ) (b : Bool) → eqb n (length s) ≡ b → command s ≡ ok r n → (n ≤ length s) × Command (take n s) r → Right s (cond b (ok r n) (no n))
unfolding Viable Wrong
right_ok s r n true e d h =
    let q : n ≡ length s = eqb-true n (length s) e in
    (rw (q, take-length) at h.1, q)
right_ok s r n false e d h =
    record {
      wrong = λ r' x. eqb-false n (length s) e (ap used (sym d ∙ whole s r' x));
      within = h.0;
      begins = ([], r, rw append-nil h.1);
      longest = longer s n (ap used d);
    }

right_from : (s : List ℕ) (r : Res Parsed) → command s ≡ r → Sound Command s r → Right s (whole_from s r)
unfolding whole_from Viable Wrong
right_from s (ok r n) d h = right_ok s r n (eqb n (length s)) refl d h
right_from s (no n) d h =
    record {
      wrong = λ r x. let y = whole s r x in let z : ◌≡◌ {A = ℕ} 0 1 = cc in omega arith;
      within = h.0;
      begins = h.1;
      longest = longer s n (ap used d);
    }

pub right : (s : List ℕ) → Right s (read_line s)
unfolding read_line
right s = right_from s (command s) refl (command_reads.sound s)

-- any line is of the grammar, or has a place
pub read_or_placed : (line : List ℕ) → ((said : Parsed) × Command line said) ⊎ ((p : ℕ) × LinePlace line p)
read_or_placed line = by (read_line line) (right line)
  where
    by : (r : Res Parsed) → Right line r → ((said : Parsed) × Command line said) ⊎ ((p : ℕ) × LinePlace line p)
    by (ok said n) h = inl (said, h.0)
    by (no n) h = inr (n, h)

-- examples are computed: what the reader gives is what the line says, and where it refuses is the place
pub said_by : (line : List ℕ) (said : Parsed) (n : ℕ) → read_line line ≡ ok said n → Command line said
said_by line said n is = (subst (Right line) is (right line)).0

pub placed_by : (line : List ℕ) (p : ℕ) → read_line line ≡ no p → LinePlace line p
placed_by line p is = subst (Right line) is (right line)
