-- What was passed over: the answer does not say what stands there, but where it ends, and whether it passes a test.
use Prim.Native.Nat.{ℕ}
use mathlib.Core.Path.{◌≡◌, refl, sym, ap, ◌∙◌}
use mathlib.Core.Bool.{Bool}
use mathlib.Core.List.{List}
use mathlib.Core.Option.{Option, none, some}
use native.Mathlib.Omega.{arith}
use lib.ListN.{drop}
use Rattle.command_grammar.specs.Reader.{is, Res, ok, no, mapped, from, seq, opt, one_character}
use Rattle.command_grammar.proofs.ReaderPlaces.{from_seq, from_seq_no, from_opt_missed, from_opt_found}
use Rattle.command_cursor.specs.CursorAt.{part_at}
use Rattle.command_cursor.specs.declared.Cursor.{Cursor}
use Rattle.command_cursor.specs.Part as P
use Rattle.command_cursor.proofs.CursorAtRuns.{found, missed}
use Rattle.command_parts.specs.Passed.{passed, passing, always}
use Rattle.command_parts.specs.Passing as W

-- what is made of what was read does not matter
pub passed_mapped : {A B : Type 0} (h : A → B) (r : Res A) → passed r ≡ passed (mapped h r)
unfolding passed
passed_mapped h (ok a n) = refl
passed_mapped h (no n) = refl

pub passed_ok : {A : Type 0} (next : Cursor) (r : Res A) → passed r ≡ P.Read next → (a : A) × (r ≡ ok a next.at)
unfolding passed
passed_ok next (ok a j) e =
    let b : ◌≡◌ {A = Cursor} (record { at = j }) next = cc in
    (a, ap (λ (c : Cursor). ok a c.at) b)
passed_ok next (no p) e = let z : ◌≡◌ {A = ℕ} 0 1 = cc in absurd (omega arith)

pub passed_no : {A : Type 0} (place : ℕ) (r : Res A) → passed r ≡ P.Refused place → r ≡ no place
unfolding passed
passed_no place (ok a j) e = let z : ◌≡◌ {A = ℕ} 0 1 = cc in absurd (omega arith)
passed_no place (no p) e = cc

-- the same with a test of what was read
pub passing_mapped : {A B : Type 0} (h : A → B) (test : B → Bool) (r : Res A) → passing (λ (a : A). test (h a)) r ≡ passing test (mapped h r)
unfolding passing
passing_mapped h test (ok a n) = refl
passing_mapped h test (no n) = refl

pub passing_ok : {A : Type 0} (test : A → Bool) (next : Cursor) (keeps : Bool) (r : Res A) → passing test r ≡ W.Read next keeps
    → (a : A) × (r ≡ ok a next.at) × (keeps ≡ test a)
unfolding passing
passing_ok test next keeps (ok a j) e =
    let b : ◌≡◌ {A = Cursor} (record { at = j }) next = cc in
    let t : test a ≡ keeps = cc in
    (a, ap (λ (c : Cursor). ok a c.at) b, sym t)
passing_ok test next keeps (no p) e = let z : ◌≡◌ {A = ℕ} 0 1 = cc in absurd (omega arith)

pub passing_no : {A : Type 0} (test : A → Bool) (place : ℕ) (r : Res A) → passing test r ≡ W.Refused place → r ≡ no place
unfolding passing
passing_no test place (ok a j) e = let z : ◌≡◌ {A = ℕ} 0 1 = cc in absurd (omega arith)
passing_no test place (no p) e = cc

-- one character, of which the test is known
module _ (c : ℕ) (s : List ℕ) (i : ℕ) (keeps : Bool) where
  pub one_found : (next : Cursor) → part_at i (one_character (is c) (drop i s)) ≡ P.Read next
      → W.Read next keeps ≡ passing (always keeps) (from (one_character (is c)) s i)
  unfolding passing
  one_found next h = rw (found c s i next h).1

  pub one_missed : (place : ℕ) → part_at i (one_character (is c) (drop i s)) ≡ P.Refused place
      → W.Refused place ≡ passing (always keeps) (from (one_character (is c)) s i)
  unfolding passing
  one_missed place h = rw (missed c s i place h)

-- what stands behind a part ends where the whole ends; and the refusal of the first part is that of the whole
module _ {A B C : Type 0} (k : A → B → C) (f : List ℕ → Res A) (g : List ℕ → Res B) (s : List ℕ) (i : ℕ) where
  pub pass_on : {a : A} {j : ℕ} → from f s i ≡ ok a j → passed (from g s j) ≡ passed (from (seq k f g) s i)
  pass_on {a} {j} h = passed_mapped (k a) (from g s j) ∙ ap passed (sym (from_seq k f g s i a j h))

  pub passing_on : (test : C → Bool) {a : A} {j : ℕ} → from f s i ≡ ok a j → passing (λ (b : B). test (k a b)) (from g s j) ≡ passing test (from (seq k f g) s i)
  passing_on test {a} {j} h = passing_mapped (k a) test (from g s j) ∙ ap (passing test) (sym (from_seq k f g s i a j h))

  pub passing_not : (test : C → Bool) {p : ℕ} → from f s i ≡ no p → W.Refused p ≡ passing test (from (seq k f g) s i)
  unfolding passing
  passing_not test {p} h = ap (passing test) (sym (from_seq_no k f g s i p h))

module _ {A : Type 0} (c : ℕ) (f : List ℕ → Res A) (s : List ℕ) (i : ℕ) where
  pub pass_present : {x j : ℕ} → from (one_character (is c)) s i ≡ ok x j → passed (from f s i) ≡ passed (from (opt (is c) f) s i)
  pass_present {x} {j} h = passed_mapped some (from f s i) ∙ ap passed (sym (from_opt_found c f s i x j h))

  pub pass_absent : {p : ℕ} → from (one_character (is c)) s i ≡ no p → P.Read (record { at = i }) ≡ passed (from (opt (is c) f) s i)
  unfolding passed
  pass_absent {p} h = ap passed (sym (from_opt_missed c f s i p h))

  pub passing_present : (test : Option A → Bool) {x j : ℕ} → from (one_character (is c)) s i ≡ ok x j
      → passing (λ (a : A). test (some a)) (from f s i) ≡ passing test (from (opt (is c) f) s i)
  passing_present test {x} {j} h = passing_mapped some test (from f s i) ∙ ap (passing test) (sym (from_opt_found c f s i x j h))

  pub passing_absent : (test : Option A → Bool) {p : ℕ} → from (one_character (is c)) s i ≡ no p
      → W.Read (record { at = i }) (test none) ≡ passing test (from (opt (is c) f) s i)
  unfolding passing
  passing_absent test {p} h = ap (passing test) (sym (from_opt_missed c f s i p h))
