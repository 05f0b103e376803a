-- A file, as the code passes over it: a name, and what stands behind it.
use Prim.Native.Nat.{ℕ, suc, ◌+◌, ◌-◌, ◌≤◌, ◌<◌}
use mathlib.Core.Path.{◌≡◌, refl, sym, ap, ◌∙◌}
use mathlib.Core.List.{List, [], ◌∷◌}
use mathlib.Core.Option.{none, some}
use mathlib.Core.Bool.{Bool, true, false, cond}
use native.Mathlib.Nat.{add-zero}
use native.Mathlib.Omega.{arith}
use lib.ListN.{drop}
use Rattle.radix.specs.Names.{is_letter_or_digit}
use Rattle.command_grammar.specs.LineCharacters.{period}
use Rattle.command_grammar.specs.Parsed.{FileName}
use Rattle.command_grammar.specs.Reader.{is, Res, ok, no, mapped, moved, from, seq, second, mk_file, opt, word, span, one_character, file}
use Rattle.command_cursor.specs.CursorAt.{part_at}
use Rattle.command_cursor.specs.declared.Cursor.{Cursor}
use Rattle.command_cursor.specs.Part as P
use Rattle.command_cursor.proofs.CursorAtRuns.{found, missed, run_up, run_read, run_short}
use Rattle.command_parts.specs.Passed.{extension, passed}
use Rattle.command_parts.proofs.Passed.{passed_mapped, pass_on, pass_present, pass_absent}

abbrev pub extended : List ℕ → Res (List ℕ)
extended = seq second (one_character (is period)) (word 1 (span is_letter_or_digit 3))

module _ (s : List ℕ) (i : ℕ) where
  pub pass_no_extension : (p : ℕ) → part_at i (one_character (is period) (drop i s)) ≡ P.Refused p → P.Read (record { at = i }) ≡ passed (from extension s i)
  pass_no_extension p h = pass_absent period extended s i (missed period s i p h)

  module _ (a : Cursor) (h : part_at i (one_character (is period) (drop i s)) ≡ P.Read a) (e : ℕ) (q : e ≡ a.at + span is_letter_or_digit 3 (drop a.at s)) where
    behind : passed (from (word 1 (span is_letter_or_digit 3)) s a.at) ≡ passed (from extension s i)
    behind = let f = (found period s i a h).1 in pass_on second (one_character (is period)) (word 1 (span is_letter_or_digit 3)) s i f ∙ pass_present period extended s i f

    pub pass_short_extension : e ≡ a.at → P.Refused e ≡ passed (from extension s i)
    unfolding passed
    pass_short_extension z =
        let few : e - a.at < 1 = omega arith in
        ap passed (sym (run_short is_letter_or_digit 3 s a.at e q 1 few)) ∙ behind

    pub pass_extension : (e ≡ a.at → ⊥) → P.Read (record { at = e }) ≡ passed (from extension s i)
    unfolding passed
    pass_extension z =
        let least : 1 ≤ e - a.at = omega (arith, run_up is_letter_or_digit 3 s a.at e q) in
        ap passed (sym (run_read is_letter_or_digit 3 s a.at e q 1 least)) ∙ behind

-- an optional part that begins with a run, by the run's length
opt_run : {A : Type 0} (t : ℕ → Bool) (m i : ℕ) (f : List ℕ → Res A) (d : List ℕ)
    → (span t (suc m) d ≡ 0 → moved i (opt t f d) ≡ ok none i) × (1 ≤ span t (suc m) d → moved i (opt t f d) ≡ mapped some (moved i (f d)))
unfolding opt span
opt_run t m i f [] = (λ z. rw add-zero, λ z. absurd (omega arith))
opt_run {A} t m i f (x ∷ d) = go (t x)
  where
    mm : (r : Res A) → moved i (mapped some r) ≡ mapped some (moved i r)
    mm (ok a n) = refl
    mm (no n) = refl

    go : (b : Bool) → (cond b (suc (span t m d)) 0 ≡ 0 → moved i (cond b (mapped some (f (x ∷ d))) (ok none 0)) ≡ ok none i)
        × (1 ≤ cond b (suc (span t m d)) 0 → moved i (cond b (mapped some (f (x ∷ d))) (ok none 0)) ≡ mapped some (moved i (f (x ∷ d))))
    go true = (λ z. absurd (omega arith), λ z. mm (f (x ∷ d)))
    go false = (λ z. rw add-zero, λ z. absurd (omega arith))

abbrev pub named : List ℕ → Res FileName
named = seq mk_file (word 1 (span is_letter_or_digit 6)) extension

module _ (s : List ℕ) (i e : ℕ) (q : e ≡ i + span is_letter_or_digit 6 (drop i s)) where
  pub file_absent : e ≡ i → from file s i ≡ ok none i
  unfolding file from
  file_absent z = let w : span is_letter_or_digit 6 (drop i s) ≡ 0 = omega arith in (opt_run is_letter_or_digit 5 i named (drop i s)).0 w

  pub file_present : (e ≡ i → ⊥) → from file s i ≡ mapped some (from named s i)
  unfolding file from
  file_present z = let positive : 1 ≤ span is_letter_or_digit 6 (drop i s) = omega arith in (opt_run is_letter_or_digit 5 i named (drop i s)).1 positive

  pub pass_no_file : e ≡ i → P.Read (record { at = i }) ≡ passed (from file s i)
  unfolding passed
  pass_no_file z = ap passed (sym (file_absent z))

  pub pass_file : (e ≡ i → ⊥) → passed (from extension s e) ≡ passed (from file s i)
  pass_file z =
      let least : 1 ≤ e - i = omega (arith, run_up is_letter_or_digit 6 s i e q) in
      pass_on mk_file (word 1 (span is_letter_or_digit 6)) extension s i (run_read is_letter_or_digit 6 s i e q 1 least)
      ∙ passed_mapped some (from named s i)
      ∙ ap passed (sym (file_present z))
