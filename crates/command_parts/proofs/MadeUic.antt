-- The numbers of a group and a user, where they stand at a place of the line.
use Prim.Native.Nat.{ℕ, ◌+◌, ◌≤◌}
use mathlib.Core.Path.{◌≡◌, sym, ap, ◌∙◌}
use mathlib.Core.List.{List}
use mathlib.Core.Option.{Option, none, some}
use Rattle.std.specs.Prelude.{Some, None}
use native.Mathlib.Omega.{arith}
use lib.ListN.{length, drop}
use Rattle.command_grammar.specs.LineCharacters.{is_octal, comma, opening, closing}
use Rattle.command_grammar.specs.Parsed.{Uic}
use Rattle.command_grammar.specs.Reader.{is, ok, from, first, second, mk_uic, span_all, one_character, uic}
use Rattle.command_grammar.proofs.ReaderPlaces.{from_opt_missed, from_opt_found, from_seq, mapped_ok, seq_both, word_taken, one_place}
use Rattle.command_cursor.specs.CursorAt.{part_at}
use Rattle.command_cursor.specs.NumberAt.{octals_at, NumberAt}
use Rattle.command_cursor.specs.declared.Cursor.{Cursor}
use Rattle.command_cursor.specs.declared.Number.{Number}
use Rattle.command_cursor.specs.Part as P
use Rattle.command_cursor.proofs.CursorAtRuns.{found, missed, found_place}
use Rattle.command_cursor.proofs.NumberAt.{number_within}
use Rattle.command_parts.specs.Made.{uic_found}
use Rattle.command_parts.specs.Passed.{user, brackets}
use Rattle.command_parts.specs.declared.reading.ReadAt.{ReadAt}
use Rattle.command_parts.specs.declared.reading.UicNumbers.{UicNumbers}
use Rattle.command_parts.proofs.PassedUic.{digits, last, body}

-- digits, all of them
digits_taken : (s : List ℕ) (i : ℕ) {w : List ℕ} {e : ℕ} → from digits s i ≡ ok w e → (e ≡ i + span_all is_octal (drop i s)) × (w ≡ octals_at s i)
digits_taken s i h = let x = word_taken 1 (span_all is_octal) s i h in (x.0, x.1)

-- behind the comma `c` the user's digits, and the closing bracket
user_taken : (s : List ℕ) (c j : ℕ) {v : List ℕ} → from user s c ≡ ok v j → (j ≡ c + 1 + span_all is_octal (drop (c + 1) s) + 1) × (v ≡ octals_at s (c + 1))
user_taken s c j h =
    let b = seq_both second (one_character (is comma)) last s c h in
    let p = one_place comma s c b.0 b.1 b.3 in
    let v = seq_both first digits (one_character (is closing)) s b.1 b.4 in
    let taken = digits_taken s b.1 v.3 in
    let q = one_place closing s v.1 v.2 j v.4 in
    let ends : v.1 ≡ c + 1 + span_all is_octal (drop (c + 1) s) = taken.0 ∙ ap (λ (n : ℕ). n + span_all is_octal (drop n s)) p.0 in
    (omega (arith, ends, q.0), b.5 ∙ v.5 ∙ taken.1 ∙ ap (octals_at s) p.0)

module _ (s : List ℕ) (i : ℕ) where
  pub uic_none : {p : ℕ} → part_at i (one_character (is opening) (drop i s)) ≡ P.Refused p
      → (u : Option Uic) (j : ℕ) → from brackets s i ≡ ok u j → ◌≡◌ {A = ReadAt UicNumbers} (record { part = None; next = record { at = i } }) (uic_found u j)
  unfolding uic_found
  uic_none {p} h u j stands =
      let told = sym (from_opt_missed opening uic s i p (missed opening s i p h)) ∙ stands in
      let absent : none ≡ u = cc in
      let ends : i ≡ j = cc in
      rw (← absent, ← ends)

  module _ (a : Cursor) (h : part_at i (one_character (is opening) (drop i s)) ≡ P.Read a) {x : Number} (group : NumberAt s a.at x) where
    pub group_within : x.next.at ≤ length s
    group_within = number_within group (length s) (omega arith) (found_place opening s i a h).1

    module _ {y : Number} (behind : NumberAt s (x.next.at + 1) y) where
      pub user_within : y.next.at ≤ length s + 1
      user_within = number_within behind (length s + 1) (omega arith) (omega (arith, group_within))

      uic_taken : {u : Option Uic} {j : ℕ} → from brackets s i ≡ ok u j → (u ≡ some (mk_uic (octals_at s a.at) (octals_at s (x.next.at + 1)))) × (j ≡ y.next.at + 1)
      unfolding uic
      uic_taken {u} {j} stands =
          let f = found opening s i a h in
          let b = mapped_ok some (from uic s i) (sym (from_opt_found opening uic s i f.0 a.at f.1) ∙ stands) in
          let c = mapped_ok (second f.0) (from body s a.at) (sym (from_seq second (one_character (is opening)) body s i f.0 a.at f.1) ∙ b.1) in
          let g = seq_both mk_uic digits user s a.at c.1 in
          let taken = digits_taken s a.at g.3 in
          let middle : g.1 ≡ x.next.at = taken.0 ∙ sym group.ends in
          let v = user_taken s g.1 j g.4 in
          let ends : j ≡ x.next.at + 1 + span_all is_octal (drop (x.next.at + 1) s) + 1 = v.0 ∙ ap (λ (n : ℕ). n + 1 + span_all is_octal (drop (n + 1) s) + 1) middle in
          let digits_are : g.2 ≡ octals_at s (x.next.at + 1) = v.1 ∙ ap (λ (n : ℕ). octals_at s (n + 1)) middle in (
            b.2 ∙ ap some (c.2 ∙ g.5 ∙ ap (λ (w : List ℕ). mk_uic w g.2) taken.1 ∙ ap (mk_uic (octals_at s a.at)) digits_are),
            omega (arith, ends, behind.ends),
          )

      pub uic_made : (u : Option Uic) (j : ℕ) → from brackets s i ≡ ok u j
          → ◌≡◌ {A = ReadAt UicNumbers} (record { part = Some (record { group = x.value; user = y.value }); next = record { at = y.next.at + 1 } }) (uic_found u j)
      unfolding uic_found
      uic_made u j stands = let t = uic_taken stands in rw (t.0, t.1, group.is, behind.is)
