-- The switches, as the code passes over them.
use Prim.Native.Nat.{ℕ, ◌≤◌, ◌<◌}
use mathlib.Core.Path.{◌≡◌, refl, sym, ap, ◌∙◌}
use mathlib.Core.List.{List, ◌∷◌}
use lib.ListN.{length, drop}
use Rattle.command_grammar.specs.LineCharacters.{slash}
use Rattle.command_grammar.specs.Reader.{is, mapped, from, seq, second, one_character, switch}
use Rattle.command_grammar.proofs.ReaderParts.{switch_part, switch_first, is_in, after_uic}
use Rattle.command_grammar.proofs.ReaderPlaces.{from_seq, from_seq_no, from_many_missed, from_many_found, progress}
use Rattle.command_cursor.specs.CursorAt.{part_at}
use Rattle.command_cursor.specs.declared.Cursor.{Cursor}
use Rattle.command_cursor.specs.Part as P
use Rattle.command_cursor.proofs.CursorAtRuns.{found, missed}
use Rattle.command_parts.specs.Passed.{behind_slash, switches, passed}
use Rattle.command_parts.proofs.Passed.{passed_ok, passed_no, pass_on}

module _ (s : List ℕ) (i : ℕ) where
  pub switches_none : (p : ℕ) → part_at i (one_character (is slash) (drop i s)) ≡ P.Refused p → P.Read (record { at = i }) ≡ passed (from switches s i)
  unfolding passed
  switches_none p h = rw (from_many_missed slash switch s i p (missed slash s i p h))

  module _ (a : Cursor) (h : part_at i (one_character (is slash) (drop i s)) ≡ P.Read a) where
    on : from switches s i ≡ from (seq ◌∷◌ switch switches) s i
    on = let f = found slash s i a h in from_many_found slash switch_part switch_first (is_in slash after_uic refl) s i f.0 a.at f.1

    begun : from switch s i ≡ mapped (second (found slash s i a h).0) (from behind_slash s a.at)
    unfolding switch behind_slash
    begun = let f = found slash s i a h in from_seq second (one_character (is slash)) behind_slash s i f.0 a.at f.1

    pub switches_refused : (p : ℕ) → passed (from behind_slash s a.at) ≡ P.Refused p → P.Refused p ≡ passed (from switches s i)
    unfolding passed
    switches_refused p c =
        let w = begun ∙ ap (mapped (second (found slash s i a h).0)) (passed_no p (from behind_slash s a.at) c) in
        rw (on, from_seq_no ◌∷◌ switch switches s i p w)

    pub switches_more : (b : Cursor) → passed (from behind_slash s a.at) ≡ P.Read b
        → (i < b.at) × (b.at ≤ length s) × (passed (from switches s b.at) ≡ passed (from switches s i))
    switches_more b c =
        let w = passed_ok b (from behind_slash s a.at) c in
        let g = begun ∙ ap (mapped (second (found slash s i a h).0)) w.1 in
        let p = progress slash switch_part switch_first (is_in slash after_uic refl) s i w.0 b.at g in
        (p.0, p.1, pass_on ◌∷◌ switch switches s i g ∙ ap passed (sym on))
