-- A group and a user, as the code passes over them: where a bracket or a comma was found, the digits behind it are the number `x`.
use Prim.Native.Nat.{ℕ}
use mathlib.Core.Path.{◌≡◌, ap, ◌∙◌}
use mathlib.Core.Bool.{Bool, true, ◌&&◌}
use mathlib.Core.List.{List}
use mathlib.Core.Option.{some}
use native.Mathlib.Omega.{arith}
use lib.Dec.{leb}
use lib.ListN.{drop}
use Rattle.command_grammar.specs.LineCharacters.{is_octal, comma, opening, closing}
use Rattle.command_grammar.specs.Parsed.{Uic}
use Rattle.command_grammar.specs.Keeps.{uic_keeps}
use Rattle.command_grammar.specs.Reader.{is, Res, ok, no, from, seq, first, second, mk_uic, word, span_all, one_character, uic}
use Rattle.command_cursor.specs.CursorAt.{part_at}
use Rattle.command_cursor.specs.declared.Cursor.{Cursor}
use Rattle.command_cursor.specs.Part as P
use Rattle.command_cursor.specs.NumberAt.{octals_at, NumberAt}
use Rattle.command_cursor.specs.declared.Number.{Number}
use Rattle.command_cursor.proofs.CursorAtRuns.{found, missed}
use Rattle.command_cursor.proofs.NumberAt.{number_up, number_read, number_short}
use Rattle.command_parts.specs.Passed.{user, user_behind, brackets, passing, always}
use Rattle.command_parts.specs.Passing as W
use Rattle.command_parts.proofs.Passed.{passing_on, passing_not, passing_present, passing_absent}
use Rattle.command_parts.proofs.PassedDevice.{tested}

abbrev pub digits : List ℕ → Res (List ℕ)
digits = word 1 (span_all is_octal)

abbrev pub last : List ℕ → Res (List ℕ)
last = seq first digits (one_character (is closing))

abbrev pub body : List ℕ → Res Uic
body = seq mk_uic digits user

abbrev uic_of : Uic → Bool
uic_of u = uic_keeps (some u)

module _ {s : List ℕ} {i : ℕ} {x : Number} (n : NumberAt s i x) where
  no_digits : x.next.at ≡ i → from digits s i ≡ no x.next.at
  no_digits z = number_short n 1 (omega arith)

  some_digits : (x.next.at ≡ i → ⊥) → from digits s i ≡ ok (octals_at s i) x.next.at
  some_digits z = number_read n 1 (omega (arith, number_up n))

module _ (s : List ℕ) (i : ℕ) (group : Bool) where
  pub pass_no_comma : (p : ℕ) → part_at i (one_character (is comma) (drop i s)) ≡ P.Refused p → W.Refused p ≡ passing (user_behind group) (from user s i)
  pass_no_comma p h = passing_not second (one_character (is comma)) last s i (user_behind group) (missed comma s i p h)

  module _ (a : Cursor) (h : part_at i (one_character (is comma) (drop i s)) ≡ P.Read a) {x : Number} (n : NumberAt s a.at x) where
    behind_comma_law : passing (user_behind group) (from last s a.at) ≡ passing (user_behind group) (from user s i)
    behind_comma_law = passing_on second (one_character (is comma)) last s i (user_behind group) (found comma s i a h).1

    pub pass_no_user : x.next.at ≡ a.at → W.Refused x.next.at ≡ passing (user_behind group) (from user s i)
    pass_no_user z = passing_not first digits (one_character (is closing)) s a.at (user_behind group) (no_digits n z) ∙ behind_comma_law

    pub pass_closing : (x.next.at ≡ a.at → ⊥)
        → passing (always (group && leb x.value 0o377)) (from (one_character (is closing)) s x.next.at) ≡ passing (user_behind group) (from user s i)
    unfolding user_behind
    pass_closing z =
        ap (λ (b : Bool). passing (always (group && b)) (from (one_character (is closing)) s x.next.at)) (tested 0o377 _ (omega arith) n.is)
        ∙ passing_on first digits (one_character (is closing)) s a.at (user_behind group) (some_digits n z)
        ∙ behind_comma_law

module _ (s : List ℕ) (i : ℕ) where
  pub pass_no_uic : (p : ℕ) → part_at i (one_character (is opening) (drop i s)) ≡ P.Refused p
      → W.Read (record { at = i }) true ≡ passing uic_keeps (from brackets s i)
  pass_no_uic p h = passing_absent opening uic s i uic_keeps (missed opening s i p h)

  module _ (a : Cursor) (h : part_at i (one_character (is opening) (drop i s)) ≡ P.Read a) {x : Number} (n : NumberAt s a.at x) where
    behind_opening : passing uic_of (from body s a.at) ≡ passing uic_keeps (from brackets s i)
    unfolding uic
    behind_opening =
        let f = (found opening s i a h).1 in
        passing_on second (one_character (is opening)) body s i uic_of f ∙ passing_present opening uic s i uic_keeps f

    pub pass_no_group : x.next.at ≡ a.at → W.Refused x.next.at ≡ passing uic_keeps (from brackets s i)
    pass_no_group z = passing_not mk_uic digits user s a.at uic_of (no_digits n z) ∙ behind_opening

    pub pass_uic : (x.next.at ≡ a.at → ⊥) → passing (user_behind (leb x.value 0o377)) (from user s x.next.at) ≡ passing uic_keeps (from brackets s i)
    unfolding user_behind
    pass_uic z =
        ap (λ (b : Bool). passing (user_behind b) (from user s x.next.at)) (tested 0o377 _ (omega arith) n.is)
        ∙ passing_on mk_uic digits user s a.at uic_of (some_digits n z)
        ∙ behind_opening
