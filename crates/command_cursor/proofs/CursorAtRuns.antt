-- What `letters`, `named` and `one` found, as the readers of a line say it: the laws that the users of a cursor cite.
use Prim.Native.Nat.{ℕ, ◌+◌, ◌-◌, ◌≤◌, ◌<◌}
use mathlib.Core.Path.{◌≡◌, refl, sym, ap, ◌∙◌, subst}
use mathlib.Core.Bool.{Bool, true}
use mathlib.Core.List.{List}
use native.Mathlib.Omega.{arith}
use borrow.Author.Tests.{le-leb}
use lib.ListN.{length, take, drop, length-drop}
use lib.Seq.{length-take-le}
use Rattle.radix.specs.Names.{is_letter, is_letter_or_digit}
use Rattle.command_grammar.specs.Grammar.{All, Between}
use Rattle.command_grammar.specs.Reader.{is, Res, ok, no, moved, from, one_character, word, span}
use Rattle.command_grammar.proofs.ReaderLeaves.{Word, of, run_reads, span_within}
use Rattle.command_grammar.proofs.ReaderPlaces.{from_word, from_word_no, one_place}
use Rattle.command_cursor.specs.CursorAt.{part_at}
use Rattle.command_cursor.specs.declared.Cursor.{Cursor}
use Rattle.command_cursor.specs.Part as P
use Rattle.command_cursor.proofs.Classes.{letters_named}

found_from : (i : ℕ) (next : Cursor) (r : Res ℕ) → part_at i r ≡ P.Read next → (x : ℕ) × (moved i r ≡ ok x next.at)
found_from i next (ok x n) h =
    let b : ◌≡◌ {A = Cursor} (record { at = i + n }) next = cc in
    (x, ap (λ (c : Cursor). ok x c.at) b)
found_from i next (no n) h = let z : ◌≡◌ {A = ℕ} 0 1 = cc in absurd (omega arith)

missed_from : (i p : ℕ) (r : Res ℕ) → part_at i r ≡ P.Refused p → moved i r ≡ no p
missed_from i p (ok x n) h = let z : ◌≡◌ {A = ℕ} 0 1 = cc in absurd (omega arith)
missed_from i p (no n) h = cc

-- what `one` answers
module _ (c : ℕ) (s : List ℕ) (i : ℕ) where
  pub found : (next : Cursor) → part_at i (one_character (is c) (drop i s)) ≡ P.Read next → (x : ℕ) × (from (one_character (is c)) s i ≡ ok x next.at)
  unfolding from
  found next h = found_from i next (one_character (is c) (drop i s)) h

  pub missed : (p : ℕ) → part_at i (one_character (is c) (drop i s)) ≡ P.Refused p → from (one_character (is c)) s i ≡ no p
  unfolding from
  missed p h = missed_from i p (one_character (is c) (drop i s)) h

  -- the cursor went one on, and stays within the line
  pub found_place : (next : Cursor) → part_at i (one_character (is c) (drop i s)) ≡ P.Read next → (next.at ≡ i + 1) × (next.at ≤ length s)
  found_place next h =
      let f = found next h in
      let o = one_place c s i f.0 next.at f.1 in
      (o.0, omega (arith, o.0, o.1))

of_word : {P : List ℕ → Type 0} {u v : List ℕ} → Word P u v → P v
of_word (of p) = p

-- a run with a bound: the characters from `i` to `e`
module _ (t : ℕ → Bool) (m : ℕ) (s : List ℕ) (i e : ℕ) (ends : e ≡ i + span t m (drop i s)) where
  abbrev pub part : List ℕ
  part = take (e - i) (drop i s)

  spanned : span t m (drop i s) ≡ e - i
  spanned = omega arith

  inside : span t m (drop i s) ≤ length s - i
  inside = rw length-drop at (span_within t m (drop i s))

  pub run_up : i ≤ e
  run_up = omega arith

  -- within the line, where the place that it started at is, or where it found any
  pub run_within : i ≤ length s → e ≤ length s
  run_within h = omega (arith, inside)

  pub run_found : i < e → e ≤ length s
  run_found h = omega (arith, inside)

  pub run_read : (a : ℕ) → a ≤ e - i → from (word a (span t m)) s i ≡ ok part e
  run_read a h =
      let least : a ≤ span t m (drop i s) = omega arith in
      from_word a (span t m) s i least ∙ ap (λ (n : ℕ). ok (take n (drop i s)) (i + span t m (drop i s))) spanned ∙ ap (ok part) (sym ends)

  pub run_short : (a : ℕ) → e - i < a → from (word a (span t m)) s i ≡ no e
  run_short a h =
      let few : span t m (drop i s) < a = omega arith in
      from_word_no a (span t m) s i few ∙ ap no (sym ends)

  read_all : word 0 (span t m) (drop i s) ≡ ok (take (span t m (drop i s)) (drop i s)) (span t m (drop i s))
  unfolding word
  read_all = rw (le-leb 0 (span t m (drop i s)) (omega arith))

  -- all of the class, and at most as many as the bound. A class has a character
  pub run_run : (w : ℕ) → t w ≡ true → Between 0 m t part
  run_run w has =
      let sound = rw read_all at ((run_reads 0 m t w has (omega arith)).sound (drop i s)) in
      subst (λ (n : ℕ). Between 0 m t (take n (drop i s))) spanned (of_word sound.1)

  pub run_most : (w : ℕ) → t w ≡ true → e ≤ i + m
  run_most w has =
      let long : length part ≡ e - i = length-take-le (e - i) (drop i s) (simp length-drop (omega (arith, inside))) in
      omega (arith, (run_run w has).most, long)

-- the characters that a run passed over have words
pub named_run : (m : ℕ) (s : List ℕ) (i e : ℕ) → e ≡ i + span is_letter_or_digit m (drop i s) → All is_letter_or_digit (take (e - i) (drop i s))
named_run m s i e ends = (run_run is_letter_or_digit m s i e ends 65 refl).all

pub letters_run : (m : ℕ) (s : List ℕ) (i e : ℕ) → e ≡ i + span is_letter m (drop i s) → All is_letter_or_digit (take (e - i) (drop i s))
letters_run m s i e ends = letters_named (run_run is_letter m s i e ends 65 refl).all
