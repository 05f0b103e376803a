-- The values of a switch and the switch, as the code passes over them.
use Prim.Native.Nat.{ℕ, ◌+◌, ◌-◌, ◌≤◌, ◌<◌}
use mathlib.Core.Path.{◌≡◌, refl, sym, ap, ◌∙◌}
use mathlib.Core.List.{List, [], ◌∷◌}
use mathlib.Core.Bool.{Bool, true, false, cond}
use native.Mathlib.Omega.{arith}
use lib.ListN.{length, take, drop}
use Rattle.radix.specs.Names.{is_letter, is_letter_or_digit}
use Rattle.command_grammar.specs.LineCharacters.{colon}
use Rattle.command_grammar.specs.Reader.{is, Res, ok, no, mapped, moved, from, seq, second, mk_switch, many, word, span, one_character, switch_value}
use Rattle.command_grammar.proofs.ReaderParts.{value_reads, value_first, is_out}
use Rattle.command_grammar.proofs.ReaderPlaces.{from_seq, from_seq_no, from_many_missed, from_many_found}
use Rattle.command_cursor.specs.CursorAt.{part_at}
use Rattle.command_cursor.specs.declared.Cursor.{Cursor}
use Rattle.command_cursor.specs.Part as P
use Rattle.command_cursor.proofs.CursorAtRuns.{found, missed, found_place, run_up, run_within, run_read, run_short}
use Rattle.command_parts.specs.Passed.{behind_slash, passed}
use Rattle.command_parts.proofs.Passed.{pass_on}

abbrev values : List ℕ → Res (List (List ℕ))
values = many (is colon) switch_value

module _ (s : List ℕ) (i : ℕ) where
  pub values_none : (p : ℕ) → part_at i (one_character (is colon) (drop i s)) ≡ P.Refused p → P.Read (record { at = i }) ≡ passed (from values s i)
  unfolding passed
  values_none p h = rw (from_many_missed colon switch_value s i p (missed colon s i p h))

  module _ (a : Cursor) (h : part_at i (one_character (is colon) (drop i s)) ≡ P.Read a) (e : ℕ) (q : e ≡ a.at + span is_letter_or_digit 6 (drop a.at s)) where
    on : from values s i ≡ from (seq ◌∷◌ switch_value values) s i
    on = let f = found colon s i a h in from_many_found colon value_reads value_first (is_out colon is_letter_or_digit refl) s i f.0 a.at f.1

    inner : from switch_value s i ≡ mapped (second (found colon s i a h).0) (from (word 1 (span is_letter_or_digit 6)) s a.at)
    unfolding switch_value
    inner = let f = found colon s i a h in from_seq second (one_character (is colon)) (word 1 (span is_letter_or_digit 6)) s i f.0 a.at f.1

    pub values_short : e ≡ a.at → P.Refused e ≡ passed (from values s i)
    unfolding passed
    values_short z =
        let few : e - a.at < 1 = omega arith in
        let w : from switch_value s i ≡ no e = inner ∙ ap (mapped (second (found colon s i a h).0)) (run_short is_letter_or_digit 6 s a.at e q 1 few) in
        rw (on, from_seq_no ◌∷◌ switch_value values s i e w)

    pub values_more : (e ≡ a.at → ⊥) → passed (from values s e) ≡ passed (from values s i)
    values_more z =
        let v = take (e - a.at) (drop a.at s) in
        let least : 1 ≤ e - a.at = omega (arith, run_up is_letter_or_digit 6 s a.at e q) in
        let w : from switch_value s i ≡ ok v e = inner ∙ ap (mapped (second (found colon s i a h).0)) (run_read is_letter_or_digit 6 s a.at e q 1 least) in
        pass_on ◌∷◌ switch_value values s i w ∙ ap passed (sym on)

    -- the place goes on, and stays within the line
    pub values_on : (i < e) × (e ≤ length s)
    values_on =
        let o = found_place colon s i a h in
        (omega (arith, o.0, run_up is_letter_or_digit 6 s a.at e q), run_within is_letter_or_digit 6 s a.at e q o.1)

-- a run of at most one letter is one letter, or none
one_letter : (s : List ℕ) (j m : ℕ) → m ≡ j + span is_letter 1 (drop j s)
    → (m ≡ j → from (one_character is_letter) s j ≡ no m) × ((m ≡ j → ⊥) → (x : ℕ) × (from (one_character is_letter) s j ≡ ok x m))
unfolding from one_character span
one_letter s j m q = go (drop j s) q
  where
    pick : (x : ℕ) (b : Bool) → m ≡ j + cond b 1 0
        → (m ≡ j → moved j (cond b (ok x 1) (no 0)) ≡ no m) × ((m ≡ j → ⊥) → (y : ℕ) × (moved j (cond b (ok x 1) (no 0)) ≡ ok y m))
    pick x true q = (λ z. absurd (omega arith), λ z. (x, ap (ok x) (sym q)))
    pick x false q = (λ z. ap no (sym q), λ z. absurd (z (omega arith)))

    go : (d : List ℕ) → m ≡ j + span is_letter 1 d
        → (m ≡ j → moved j (one_character is_letter d) ≡ no m) × ((m ≡ j → ⊥) → (x : ℕ) × (moved j (one_character is_letter d) ≡ ok x m))
    go [] q = (λ z. ap no (sym q), λ z. absurd (z (omega arith)))
    go (x ∷ d) q = pick x (is_letter x) q

abbrev named : List ℕ → Res (List ℕ)
named = seq ◌∷◌ (one_character is_letter) (word 0 (span is_letter_or_digit 5))

module _ (s : List ℕ) (i m : ℕ) (q : m ≡ i + span is_letter 1 (drop i s)) where
  pub switch_short : m ≡ i → P.Refused m ≡ passed (from behind_slash s i)
  unfolding passed behind_slash
  switch_short z =
      let w : from named s i ≡ no m = from_seq_no ◌∷◌ (one_character is_letter) (word 0 (span is_letter_or_digit 5)) s i m ((one_letter s i m q).0 z) in
      rw (from_seq_no mk_switch named values s i m w)

  pub switch_on : (m ≡ i → ⊥) → (e : ℕ) → e ≡ m + span is_letter_or_digit 5 (drop m s) → passed (from values s e) ≡ passed (from behind_slash s i)
  unfolding behind_slash
  switch_on z e d =
      let x = (one_letter s i m q).1 z in
      let rest = take (e - m) (drop m s) in
      let v : from named s i ≡ ok (x.0 ∷ rest) e =
      from_seq ◌∷◌ (one_character is_letter) (word 0 (span is_letter_or_digit 5)) s i x.0 m x.1
      ∙ ap (mapped (◌∷◌ x.0)) (run_read is_letter_or_digit 5 s m e d 0 (omega arith)) in
      pass_on mk_switch named values s i v
