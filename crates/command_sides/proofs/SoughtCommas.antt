-- A side at a place of a line: its first specification, and what a comma begins.
use Prim.Native.Nat.{ℕ, suc, ◌+◌, ◌≤◌}
use mathlib.Core.Path.{◌≡◌, refl, sym, ap, ◌∙◌}
use mathlib.Core.List.{List, [], ◌∷◌}
use mathlib.Core.Option.{some}
use native.Mathlib.Omega.{arith}
use lib.ListN.{length, drop, length-drop}
use Rattle.command_grammar.specs.LineCharacters.{comma, less}
use Rattle.command_grammar.specs.Parsed.{Specification}
use Rattle.command_grammar.specs.Reading.{input_of}
use Rattle.command_grammar.specs.Reader.{is, Res, ok, no, mapped, moved, from, seq, one_character, second, specification, side}
use Rattle.command_grammar.proofs.ReaderTheory.{seq_reads}
use Rattle.command_grammar.proofs.ReaderParts.{chr_reads, is_in, after_spec}
use Rattle.command_grammar.proofs.ReaderLines.{specification_reads, next_first}
use Rattle.command_grammar.proofs.ReaderSides.{side_count}
use Rattle.command_grammar.proofs.ReaderPlaces.{from_seq, from_seq_no, from_opt_missed, from_opt_found, from_many_missed, from_many_found}
use Rattle.command_sides.specs.Sought.{behind_comma}
use Rattle.command_sides.specs.SoughtJoined.{behind_output, begun_by}

abbrev next : List ℕ → Res Specification
next = seq second (one_character (is comma)) specification

input_only : (x : ℕ) (r : Res (List Specification)) → mapped input_of (mapped some (mapped (second x) r)) ≡ r
input_only x (ok vs n) = refl
input_only x (no n) = refl

module _ (s : List ℕ) (i : ℕ) where
  pub side_refused : (p : ℕ) → from specification s i ≡ no p → from side s i ≡ no p
  unfolding side behind_comma
  side_refused p e = from_seq_no ◌∷◌ specification behind_comma s i p e

  pub side_behind : (v : Specification) (j : ℕ) → from specification s i ≡ ok v j → from side s i ≡ mapped (◌∷◌ v) (from behind_comma s j)
  unfolding side behind_comma
  side_behind v j e = from_seq ◌∷◌ specification behind_comma s i v j e

  no_comma : (p : ℕ) → from (one_character (is comma)) s i ≡ no p → from behind_comma s i ≡ ok [] i
  unfolding behind_comma
  no_comma p e = from_many_missed comma next s i p e

  module _ (x j : ℕ) (e : from (one_character (is comma)) s i ≡ ok x j) where
    next_at : from next s i ≡ mapped (second x) (from specification s j)
    next_at = from_seq second (one_character (is comma)) specification s i x j e

    again : from behind_comma s i ≡ from (seq ◌∷◌ next behind_comma) s i
    unfolding behind_comma
    again = from_many_found comma (seq_reads second (chr_reads comma) specification_reads (λ q rest b y h. tt)) next_first (is_in comma after_spec refl) s i x j e

    -- what the comma begins is read as a side is
    by : (r : Res Specification) → from specification s j ≡ r → from behind_comma s i ≡ from side s j
    unfolding side behind_comma
    by (ok v l) d = again ∙ from_seq ◌∷◌ next behind_comma s i v l (next_at ∙ ap (mapped (second x)) d) ∙ sym (from_seq ◌∷◌ specification behind_comma s j v l d)
    by (no p) d = again ∙ from_seq_no ◌∷◌ next behind_comma s i p (next_at ∙ ap (mapped (second x)) d) ∙ sym (from_seq_no ◌∷◌ specification behind_comma s j p d)

    comma_begins : from behind_comma s i ≡ from side s j
    comma_begins = by (from specification s j) refl

  -- a sign begins a side, if it stands there
  module _ (sign : ℕ) where
    pub begun_none : (p : ℕ) → from (one_character (is sign)) s i ≡ no p → begun_by sign s i ≡ ok [] i
    unfolding begun_by
    begun_none p e = ap (mapped input_of) (from_opt_missed sign (seq second (one_character (is sign)) side) s i p e)

    pub begun_some : (x j : ℕ) → from (one_character (is sign)) s i ≡ ok x j → begun_by sign s i ≡ from side s j
    unfolding begun_by
    begun_some x j e =
        ap (mapped input_of) (from_opt_found sign (seq second (one_character (is sign)) side) s i x j e ∙ ap (mapped some) (from_seq second (one_character (is sign)) side s i x j e))
        ∙ input_only x (from side s j)

  -- so does a comma begin what a side has behind a specification, and `<` the input side
  pub comma_begun : begun_by comma s i ≡ from behind_comma s i
  comma_begun = by (from (one_character (is comma)) s i) refl
    where
      by : (r : Res ℕ) → from (one_character (is comma)) s i ≡ r → begun_by comma s i ≡ from behind_comma s i
      by (ok x j) e = begun_some comma x j e ∙ sym (comma_begins x j e)
      by (no p) e = begun_none comma p e ∙ sym (no_comma p e)

  pub less_begun : begun_by less s i ≡ mapped input_of (from behind_output s i)
  unfolding begun_by behind_output
  less_begun = refl

  -- a specification ends where it began, or further on
  on_from : (v : Specification) (j : ℕ) (r : Res Specification) → moved i r ≡ ok v j → i ≤ j
  on_from v j (ok w n) e = let q : i + n ≡ j = cc in omega arith
  on_from v j (no n) e = let z : ◌≡◌ {A = ℕ} 0 1 = cc in absurd (omega arith)

  pub specification_on : (v : Specification) (j : ℕ) → from specification s i ≡ ok v j → i ≤ j
  unfolding from
  specification_on v j e = on_from v j (specification (drop i s)) e

  few_from : (vs : List Specification) (j : ℕ) (r : Res (List Specification)) → side (drop i s) ≡ r → moved i r ≡ ok vs j → length vs ≤ suc (length s)
  few_from vs j (ok ws n) e h =
      let w : ws ≡ vs = cc in
      let m = side_count (drop i s) ws n e in
      rw (← w) (omega (arith, m.0, m.1, length-drop i s))
  few_from vs j (no n) e h = let z : ◌≡◌ {A = ℕ} 0 1 = cc in absurd (omega arith)

  -- a side has no more specifications than the line has characters, and one
  pub side_few : (vs : List Specification) (j : ℕ) → from side s i ≡ ok vs j → length vs ≤ suc (length s)
  unfolding from
  side_few vs j e = few_from vs j (side (drop i s)) refl e
