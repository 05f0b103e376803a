-- The whole line at list level: its output side, what stands behind it, and its end.
use Prim.Native.Nat.{ℕ, ◌≤◌, ◌<◌}
use mathlib.Core.Path.{◌≡◌, refl, sym, ap, ◌∙◌}
use mathlib.Core.List.{List, []}
use mathlib.Core.Option.{Option, some}
use native.Mathlib.Nat.{zero-add}
use native.Mathlib.Omega.{arith}
use borrow.Author.Tests.{eq-eqb, ne_eqb}
use lib.ListN.{length}
use Rattle.command_grammar.specs.LineCharacters.{less}
use Rattle.command_grammar.specs.Parsed.{Specification, Parsed}
use Rattle.command_grammar.specs.Grammar.{Command}
use Rattle.command_grammar.specs.Reading.{input_of}
use Rattle.command_grammar.specs.Reader.{is, Res, ok, no, mapped, moved, from, seq, one_character, second, side, mk_reading, command, whole_from, read_line}
use Rattle.command_grammar.proofs.ReaderTheory.{Sound}
use Rattle.command_grammar.proofs.ReaderLines.{command_reads}
use Rattle.command_grammar.proofs.ReaderPlaces.{from_seq, from_seq_no, from_opt_missed, from_opt_found}
use Rattle.command_sides.specs.SoughtJoined.{behind_output}

-- the specifications that stand behind the output side
abbrev pub input_at : List ℕ → ℕ → Res (List Specification)
input_at s i = mapped input_of (from behind_output s i)

moved_zero : {A : Type 0} (r : Res A) → moved 0 r ≡ r
moved_zero (ok a n) = rw zero-add
moved_zero (no n) = rw zero-add

-- what the whole line says, from its command
module _ (s : List ℕ) where
  command_is : (r : Res Parsed) → from command s 0 ≡ r → command s ≡ r
  unfolding from
  command_is r h = sym (moved_zero (command s)) ∙ h

  command_no : (p : ℕ) → from command s 0 ≡ no p → read_line s ≡ no p
  unfolding read_line whole_from
  command_no p h = rw (command_is (no p) h)

  command_ok : (r : Parsed) (n : ℕ) → from command s 0 ≡ ok r n → length s ≤ n → read_line s ≡ ok r n
  unfolding read_line whole_from
  command_ok r n h l =
      let e = command_is (ok r n) h in
      let within : Sound Command s (ok r n) = rw e at (command_reads.sound s) in
      rw (e, eq-eqb n (length s) (omega (arith, within.0)))

  command_more : (r : Parsed) (n : ℕ) → from command s 0 ≡ ok r n → n < length s → read_line s ≡ no n
  unfolding read_line whole_from
  command_more r n h l = rw (command_is (ok r n) h, ne_eqb n (length s) (omega arith))

  -- a side was refused
  pub output_no : (p : ℕ) → from side s 0 ≡ no p → read_line s ≡ no p
  unfolding command behind_output
  output_no p e = command_no p (from_seq_no mk_reading side behind_output s 0 p e)

  module _ (output : List Specification) (i : ℕ) (e : from side s 0 ≡ ok output i) where
    then : from command s 0 ≡ mapped (mk_reading output) (from behind_output s i)
    unfolding command behind_output
    then = from_seq mk_reading side behind_output s 0 output i e

    input_no_by : (p : ℕ) (x : Res (Option (List Specification))) → from behind_output s i ≡ x → mapped input_of x ≡ no p → read_line s ≡ no p
    input_no_by p (ok input n) d h = let z : ◌≡◌ {A = ℕ} 0 1 = cc in absurd (omega arith)
    input_no_by p (no n) d h = let q : n ≡ p = cc in command_no p (then ∙ ap (mapped (mk_reading output)) d ∙ ap no q)

    pub input_no : (p : ℕ) → input_at s i ≡ no p → read_line s ≡ no p
    input_no p h = input_no_by p (from behind_output s i) refl h

    -- both were read, and the line goes on, or it ends
    module _ (vs : List Specification) (n : ℕ) (h : input_at s i ≡ ok vs n) where
      said_by : (x : Res (Option (List Specification))) → from behind_output s i ≡ x → mapped input_of x ≡ ok vs n
          → (input : Option (List Specification)) × (input_of input ≡ vs) × (from command s 0 ≡ ok (mk_reading output input) n)
      said_by (ok input m) d b = let y : m ≡ n = cc in let z : input_of input ≡ vs = cc in (input, z, then ∙ ap (mapped (mk_reading output)) d ∙ ap (ok (mk_reading output input)) y)
      said_by (no m) d b = let z : ◌≡◌ {A = ℕ} 0 1 = cc in absurd (omega arith)

      said : (input : Option (List Specification)) × (input_of input ≡ vs) × (from command s 0 ≡ ok (mk_reading output input) n)
      said = said_by (from behind_output s i) refl h

      pub both_no : n < length s → read_line s ≡ no n
      both_no l = command_more (mk_reading output said.0) n said.2 l

      pub both_ok : length s ≤ n → (input : Option (List Specification)) × (input_of input ≡ vs) × (read_line s ≡ ok (mk_reading output input) n)
      both_ok l = (said.0, said.1, command_ok (mk_reading output said.0) n said.2 l)
