-- What is known of the two sides of a line says where a specification begins.
use Prim.Native.Nat.{ℕ, ◌≤◌, ◌<◌}
use mathlib.Core.Path.{◌≡◌, refl, sym, ap, ◌∙◌, subst}
use mathlib.Core.Bool.{true, false, ◌&&◌}
use mathlib.Core.List.{List}
use native.Mathlib.Omega.{arith}
use lib.ListN.{length, drop}
use Rattle.command_grammar.specs.LineCharacters.{less}
use Rattle.command_grammar.specs.Parsed.{Specification, Parsed}
use Rattle.command_grammar.specs.Reading.{input_of}
use Rattle.command_grammar.specs.Keeps.{line_keeps}
use Rattle.command_grammar.specs.Reader.{is, Res, ok, no, from, one_character, side, mk_reading, read_line}
use Rattle.command_cursor.specs.CursorAt.{part_at}
use Rattle.command_cursor.specs.declared.Cursor.{Cursor}
use Rattle.command_cursor.specs.Part.{Part}
use Rattle.command_cursor.specs.Part as C
use Rattle.command_cursor.proofs.CursorAtRuns.{found, missed}
use Rattle.command_sides.specs.Sought.{Sought, SoughtAt, LocatedIn}
use Rattle.command_sides.specs.Sought as Q
use Rattle.command_sides.specs.SoughtJoined.{begun_by, chosen}
use Rattle.command_sides.specs.declared.SideFound.{SideFound}
use Rattle.command_sides.specs.Located.{Located}
use Rattle.command_sides.specs.Located as L
use Rattle.command_sides.proofs.SoughtChoices.{Known, chosen_located}
use Rattle.command_sides.proofs.SoughtJoins.{begins_none, both_keep}
use Rattle.command_sides.proofs.SoughtCommas.{less_begun}
use Rattle.command_sides.proofs.SoughtLines.{input_at, output_no, input_no, both_no, both_ok}

-- what is known where a side was read, or refused

abbrev Side : List ℕ → ℕ → Res (List Specification) → SideFound → ℕ → Type 0
Side s k x found end = (vs : List Specification) × (x ≡ ok vs end) × Known s k vs found

sought_read : (s : List ℕ) (k : ℕ) (x : Res (List Specification)) (r : Sought) (found : SideFound) (end : Cursor) → SoughtAt s k x r → r ≡ Q.Read found end
    → Side s k x found end.at
sought_read s k x r found end Q.SoughtAt.refused h = let z : ◌≡◌ {A = ℕ} 0 1 = cc in absurd (omega arith)
sought_read s k x r found end (Q.SoughtAt.read {vs} {end = j} {found = f} e b t) h =
    let p : ◌≡◌ {A = Cursor} (record { at = j }) end = cc in
    let q : f ≡ found = cc in
    (vs, ap (λ (c : Cursor). ok vs c.at) p, subst (λ (g : SideFound). Known s k vs g) q (e, b, t))

sought_refused : (s : List ℕ) (k : ℕ) (x : Res (List Specification)) (r : Sought) (place : ℕ) → SoughtAt s k x r → r ≡ Q.Refused place → x ≡ no place
sought_refused s k x r place (Q.SoughtAt.refused {place = p}) h = let q : p ≡ place = cc in ap no q
sought_refused s k x r place (Q.SoughtAt.read e b t) h = let z : ◌≡◌ {A = ℕ} 0 1 = cc in absurd (omega arith)

-- the line

module _ (s : List ℕ) (which k : ℕ) (r : Sought) (h : SoughtAt s k (from side s 0) r) where
  pub output_refused : (place : ℕ) → r ≡ Q.Refused place → LocatedIn s which k (L.Refused place)
  output_refused p e = Q.LocatedIn.refused (output_no s p (sought_refused s k (from side s 0) r p h e))

  module _ (output : SideFound) (c : Cursor) (e : r ≡ Q.Read output c) (q : Sought) (d : SoughtAt s k (begun_by less s c.at) q) where
    input_known : SoughtAt s k (input_at s c.at) q
    input_known = rw (less_begun s c.at) at d

    first : Side s k (from side s 0) output c.at
    first = sought_read s k (from side s 0) r output c h e

    pub input_refused : (place : ℕ) → q ≡ Q.Refused place → LocatedIn s which k (L.Refused place)
    input_refused p a = Q.LocatedIn.refused (input_no s first.0 c.at first.1 p (sought_refused s k (input_at s c.at) q p input_known a))

    module _ (input : SideFound) (end : Cursor) (a : q ≡ Q.Read input end) where
      second : Side s k (input_at s c.at) input end.at
      second = sought_read s k (input_at s c.at) q input end input_known a

      pub line_goes_on : end.at < length s → LocatedIn s which k (L.Refused end.at)
      line_goes_on l = Q.LocatedIn.refused (both_no s first.0 c.at first.1 second.0 end.at second.1 l)

      -- the two sides are what the line says, and their numbers its numbers
      ends : length s ≤ end.at → (said : Parsed) × (read_line s ≡ ok said end.at) × Known s k said.output output × Known s k (input_of said.input) input
      ends l =
          let w = both_ok s first.0 c.at first.1 second.0 end.at second.1 l in
          (mk_reading first.0 w.0, w.2, first.2, subst (λ (vs : List Specification). Known s k vs input) (sym w.1) second.2)

      numbers : (l : length s ≤ end.at) → (output.keeps && input.keeps) ≡ line_keeps (ends l).0
      unfolding line_keeps
      numbers l = let w = ends l in both_keep w.2.2 w.3.2

      pub line_large : length s ≤ end.at → (output.keeps && input.keeps) ≡ false → LocatedIn s which k L.TooLarge
      line_large l fails = let w = ends l in Q.LocatedIn.large w.1 (sym (numbers l) ∙ fails)

      pub line_ends : length s ≤ end.at → (output.keeps && input.keeps) ≡ true → (answer : Located) → answer ≡ chosen which k output input → LocatedIn s which k answer
      line_ends l keeps answer b =
          let w = ends l in
          rw b (chosen_located s which k w.0 end.at w.1 (sym (numbers l) ∙ keeps) output input w.2 w.3)
