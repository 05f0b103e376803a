-- Which specification is chosen.
use Prim.Native.Nat.{ℕ, zero, suc, ◌<◌, ◌≤◌}
use mathlib.Core.Path.{◌≡◌, refl, ap, ◌∙◌}
use mathlib.Core.Bool.{Bool, true, false, cond}
use mathlib.Core.List.{List, [], ◌∷◌}
use mathlib.Core.Option.{none, some}
use native.Mathlib.Nat.{not-suc-le-zero, le_of_suc-le-suc}
use native.Mathlib.Decide.{dec_lt}
use native.Mathlib.Omega.{arith}
use borrow.Author.Tests.{lt-ltb, le-ltb, eq-eqb, ne_eqb}
use lib.Dec.{eqb}
use lib.ListN.{length}
use Rattle.command_grammar.specs.Parsed.{Specification, Parsed}
use Rattle.command_grammar.specs.Reading.{input_of, side_of, specification_at}
use Rattle.command_grammar.specs.Keeps.{side_keeps, line_keeps}
use Rattle.command_grammar.specs.Reader.{ok, read_line}
use Rattle.command_cursor.specs.declared.Cursor.{Cursor}
use Rattle.command_sides.specs.Sought.{BeginsAt, LocatedIn}
use Rattle.command_sides.specs.Sought as Q
use Rattle.command_sides.specs.SoughtJoined.{start_of, among_found, chosen}
use Rattle.command_sides.specs.declared.SideFound.{SideFound}
use Rattle.command_sides.specs.Located as L

pub start_later : (k : ℕ) (here rest : Cursor) → (k ≡ 0 → ⊥) → rest ≡ start_of k here rest
start_later zero here rest h = absurd (h refl)
start_later (suc k) here rest h = refl

among_here : (found : SideFound) (k : ℕ) → k < found.count → L.At found.start ≡ among_found found k
unfolding among_found
among_here found k l = rw (lt-ltb k found.count l)

among_none : (found : SideFound) (k : ℕ) → found.count ≤ k → L.Missing ≡ among_found found k
unfolding among_found
among_none found k l = rw (le-ltb k found.count l)

module _ (side k : ℕ) (output input : SideFound) where
  pub chosen_output : side ≡ 0 → among_found output k ≡ chosen side k output input
  unfolding chosen
  chosen_output e = rw (eq-eqb side 0 e)

  pub chosen_input : (side ≡ 0 → ⊥) → side ≡ 1 → among_found input k ≡ chosen side k output input
  unfolding chosen
  chosen_input n e = rw (ne_eqb side 0 n, eq-eqb side 1 e)

  pub chosen_none : (side ≡ 0 → ⊥) → (side ≡ 1 → ⊥) → L.Missing ≡ chosen side k output input
  unfolding chosen
  chosen_none n m = rw (ne_eqb side 0 n, ne_eqb side 1 m)

-- what is known of a side that was read
abbrev pub Known : List ℕ → ℕ → List Specification → SideFound → Type 0
Known s k vs found = (found.count ≡ length vs) × BeginsAt s k vs found.start.at × (found.keeps ≡ side_keeps vs)

some_at : (k : ℕ) (vs : List Specification) → k < length vs → (v : Specification) × (specification_at k vs ≡ some v)
unfolding specification_at
some_at k [] l = absurd (not-suc-le-zero l)
some_at zero (v ∷ vs) l = (v, refl)
some_at (suc k) (v ∷ vs) l = some_at k vs (le_of_suc-le-suc l)

none_at : (k : ℕ) (vs : List Specification) → length vs ≤ k → specification_at k vs ≡ none
unfolding specification_at
none_at k [] l = refl
none_at zero (v ∷ vs) l = absurd (not-suc-le-zero l)
none_at (suc k) (v ∷ vs) l = none_at k vs (le_of_suc-le-suc l)

module _ (s : List ℕ) (which k : ℕ) (said : Parsed) (n : ℕ) (e : read_line s ≡ ok said n) (all : line_keeps said ≡ true) where
  among_located : (vs : List Specification) (found : SideFound) → side_of which said ≡ vs → Known s k vs found → LocatedIn s which k (among_found found k)
  among_located vs found d known = by (dec_lt k found.count)
    where
      by : Dec (k < found.count) → LocatedIn s which k (among_found found k)
      by (yes l) =
          let v = some_at k vs (omega (arith, known.0)) in
          let a = known.1 v.0 v.1 in
          rw (← (among_here found k l)) (Q.LocatedIn.located e all (ap (specification_at k) d ∙ v.1) a.1)
      by (no l) = rw (← (among_none found k (omega arith))) (Q.LocatedIn.missing e all (ap (specification_at k) d ∙ none_at k vs (omega (arith, known.0))))

  pub chosen_located : (output input : SideFound) → Known s k said.output output → Known s k (input_of said.input) input → LocatedIn s which k (chosen which k output input)
  unfolding chosen side_of
  chosen_located output input a b = by (eqb which 0) (eqb which 1) refl refl
    where
      by : (first second : Bool) → eqb which 0 ≡ first → eqb which 1 ≡ second → LocatedIn s which k (cond first (among_found output k) (cond second (among_found input k) L.Missing))
      by true second x y = among_located said.output output (rw x) a
      by false true x y = among_located (input_of said.input) input (rw (x, y)) b
      by false false x y = Q.LocatedIn.missing e all (rw (x, y) (none_at k [] (omega arith)))
