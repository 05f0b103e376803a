-- A side is its first specification, and what a comma begins: the law by which the readers of sides and specifications call each other.
use Prim.Native.Nat.{ℕ, suc, ◌+◌, ◌≤◌}
use mathlib.Core.Path.{◌≡◌, refl, ap}
use mathlib.Core.List.{List, ◌∷◌}
use native.Mathlib.Nat.{le_refl}
use native.Mathlib.Omega.{arith}
use lib.ListN.{length, drop, length-drop, length-append, length-take}
use Rattle.command_grammar.specs.LineCharacters.{comma}
use Rattle.command_grammar.specs.Parsed.{Specification}
use Rattle.command_grammar.specs.Grammar.{IsSide}
use Rattle.command_grammar.specs.Grammar as G
use Rattle.command_grammar.specs.Reader.{is, Res, ok, no, used, later, and_then, seq, many_by, many, one_character, second, specification, side}
use Rattle.command_grammar.proofs.ReaderAgree.{agree_refl}
use Rattle.command_grammar.proofs.ReaderTheory.{Sound, seq_reads, many_near}
use Rattle.command_grammar.proofs.ReaderParts.{chr_reads, is_in, after_spec}
use Rattle.command_grammar.proofs.ReaderLines.{specification_reads, next_first, side_reads}

abbrev next : List ℕ → Res Specification
next = seq second (one_character (is comma)) specification

enough : (k : ℕ) (s : List ℕ) → length s ≤ k → many_by k (is comma) next s ≡ many (is comma) next s
unfolding many
enough k s l = many_near (is comma) (seq_reads second (chr_reads comma) specification_reads (λ q rest b y h. tt)) next_first (is_in comma after_spec refl)
    (length s) k s s (le_refl (length s)) l (agree_refl (suc (used (many_by (length s) (is comma) next s))) s)

later_later : (n m : ℕ) (v w : Specification) (r : Res (List Specification)) → later n (◌∷◌ v) (later (1 + m) (◌∷◌ w) r) ≡ later (suc n) (◌∷◌ v) (later m (◌∷◌ w) r)
later_later n m v w (ok vs x) = ap (ok (v ∷ w ∷ vs)) (omega arith)
later_later n m v w (no x) = ap no (omega arith)

drop_one : (m c : ℕ) (t : List ℕ) → drop (1 + m) (c ∷ t) ≡ drop m t
drop_one m c t = let e : 1 + m ≡ suc m = omega arith in ap (λ (k : ℕ). drop k (c ∷ t)) e

more_from : (n : ℕ) (v : Specification) (t : List ℕ) (r : Res Specification)
    → later n (◌∷◌ v) (and_then ◌∷◌ (many_by (length t) (is comma) next) (comma ∷ t) (later 1 (second comma) r)) ≡ later (suc n) (◌∷◌ v)
    (and_then ◌∷◌ (many (is comma) next) t r)
more_from n v t (ok w m) = rw (drop_one m comma t, enough (length t) (drop m t) (simp length-drop (omega arith))) (later_later n m v w (many (is comma) next (drop m t)))
more_from n v t (no m) = ap no (omega arith)

pub side_more : (s t : List ℕ) (v : Specification) (n : ℕ) → specification s ≡ ok v n → drop n s ≡ comma ∷ t → side s ≡ later (suc n) (◌∷◌ v) (side t)
unfolding side many many_by one_character
side_more s t v n e d = rw (e, d) (more_from n v t (specification t))

-- a side has no more specifications than characters and one
count : {s : List ℕ} {vs : List Specification} → IsSide s vs → length vs ≤ suc (length s)
count (G.IsSide.one x) = omega arith
count (G.IsSide.more {s} {t} x y) = rw (length-append s (comma ∷ t)) (omega (arith, count y))

pub side_count : (s : List ℕ) (vs : List Specification) (n : ℕ) → side s ≡ ok vs n → (length vs ≤ suc n) × (n ≤ length s)
side_count s vs n e =
    let h : Sound IsSide s (ok vs n) = rw e at (side_reads.sound s) in
    (omega (arith, count h.1, length-take n s), h.0)
