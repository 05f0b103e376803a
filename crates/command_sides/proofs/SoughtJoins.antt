-- What is known of a side follows from what is known of its first specification and of what stands behind it.
use Prim.Native.Nat.{ℕ, zero, suc, ◌+◌, ◌-◌, ◌≤◌, ◌<◌, ◌^◌}
use mathlib.Core.Path.{◌≡◌, refl, sym, ap, ◌∙◌}
use mathlib.Core.Bool.{Bool, true, ◌&&◌}
use mathlib.Core.List.{List, [], ◌∷◌}
use native.Mathlib.Numerals.{sub-one}
use native.Mathlib.Omega.{arith}
use lib.ListN.{length, drop}
use Rattle.command_grammar.specs.LineCharacters.{comma}
use Rattle.command_grammar.specs.Parsed.{Specification}
use Rattle.command_grammar.specs.Reading.{specification_at}
use Rattle.command_grammar.specs.Keeps.{specification_keeps}
use Rattle.command_grammar.specs.Reader.{is, Res, ok, mapped, from, one_character, specification, side}
use Rattle.command_cursor.specs.CursorAt.{part_at}
use Rattle.command_cursor.specs.declared.Cursor.{Cursor}
use Rattle.command_cursor.specs.Part.{Part}
use Rattle.command_cursor.specs.Part as C
use Rattle.command_cursor.proofs.CursorAtRuns.{found, missed, found_place}
use Rattle.command_parts.specs.Passed.{passing}
use Rattle.command_parts.specs.Passing.{Passing}
use Rattle.command_parts.specs.Passing as W
use Rattle.command_parts.proofs.Passed.{passing_ok, passing_no}
use Rattle.command_sides.specs.Sought.{Sought, sought_in, behind_comma, BeginsAt, SoughtAt}
use Rattle.command_sides.specs.Sought as Q
use Rattle.command_sides.specs.SoughtJoined.{begun_by, none_found, start_of, joined, sought_joined, Countable}
use Rattle.command_sides.proofs.SoughtCommas.{side_refused, side_behind, begun_none, begun_some, comma_begun, specification_on, side_few}

-- where specification k begins

pub begins_none : (s : List ℕ) (k start : ℕ) → BeginsAt s k [] start
unfolding specification_at
begins_none s k start v e = let z : ◌≡◌ {A = ℕ} 0 1 = cc in absurd (omega arith)

begins_more : (s : List ℕ) (k : ℕ) (v : Specification) (vs : List Specification) (here rest : Cursor) (end : ℕ)
    → from specification s here.at ≡ ok v end → BeginsAt s (k - 1) vs rest.at → BeginsAt s k (v ∷ vs) (start_of k here rest).at
unfolding specification_at
begins_more s zero v vs here rest end e b w h = let q : v ≡ w = cc in (end, e ∙ ap (λ (x : Specification). ok x end) q)
begins_more s (suc k) v vs here rest end e b w h = (rw sub-one at b) w h

pub both_keep : {a b c d : Bool} → a ≡ c → b ≡ d → (a && b) ≡ (c && d)
both_keep p q = rw (p, q)

-- whether a sign stands there

module _ (s : List ℕ) (c : Cursor) (sign : ℕ) (r : Part) (h : r ≡ part_at c.at (one_character (is sign) (drop c.at s))) where
  pub none_begun : (k place : ℕ) → r ≡ C.Refused place → SoughtAt s k (begun_by sign s c.at) (Q.Read (none_found c) c)
  none_begun k p e = rw (begun_none s c.at sign p (missed sign s c.at p (sym h ∙ e))) (Q.SoughtAt.read refl (begins_none s k c.at) refl)

  module _ (next : Cursor) (e : r ≡ C.Read next) where
    -- the characters left are fewer
    pub sign_passed : (c.at < next.at) × (next.at ≤ length s)
    sign_passed = let w = found_place sign s c.at next (sym h ∙ e) in (omega (arith, w.0), w.1)

    pub side_begun : (k : ℕ) (rest : Sought) → SoughtAt s k (from side s next.at) rest → SoughtAt s k (begun_by sign s c.at) rest
    side_begun k rest b = let w = found sign s c.at next (sym h ∙ e) in rw (begun_some s c.at sign w.0 next.at w.1) b

-- a specification, and what stands behind it

module _ (s : List ℕ) (here : Cursor) (r : Passing) (h : r ≡ passing specification_keeps (from specification s here.at)) where
  pub side_none : (k place : ℕ) → r ≡ W.Refused place → SoughtAt s k (from side s here.at) (Q.Refused place)
  side_none k place e = rw (side_refused s here.at place (passing_no specification_keeps place (from specification s here.at) (sym h ∙ e))) Q.SoughtAt.refused

  module _ (next : Cursor) (keeps : Bool) (e : r ≡ W.Read next keeps) where
    first : (v : Specification) × (from specification s here.at ≡ ok v next.at) × (keeps ≡ specification_keeps v)
    first = passing_ok specification_keeps next keeps (from specification s here.at) (sym h ∙ e)

    behind : from side s here.at ≡ mapped (◌∷◌ first.0) (from behind_comma s next.at)
    behind = side_behind s here.at first.0 next.at first.1

    -- the characters left are no more
    pub went_on : here.at ≤ next.at
    went_on = specification_on s here.at first.0 next.at first.1

    module _ (k before : ℕ) (rest : Sought) (d : before ≡ k - 1) (known : SoughtAt s before (begun_by comma s next.at) rest) where
      count_by : (y : Res (List Specification)) → from side s here.at ≡ mapped (◌∷◌ first.0) y → length s < 2 ^ 63 → (q : Sought) → SoughtAt s before y q → Countable q
      count_by y b l q Q.SoughtAt.refused = tt
      count_by y b l q (Q.SoughtAt.read {vs} {end} {found} m c t) =
          let w : suc (length vs) ≤ suc (length s) = side_few s here.at (first.0 ∷ vs) end b in
          omega arith

      pub countable : length s < 2 ^ 63 → Countable rest
      countable l = count_by (from behind_comma s next.at) behind l rest (rw (comma_begun s next.at) at known)

      join_by : (y : Res (List Specification)) (q : Sought) → SoughtAt s (k - 1) y q → SoughtAt s k (mapped (◌∷◌ first.0) y) (sought_joined k here keeps q)
      unfolding sought_joined joined
      join_by y q Q.SoughtAt.refused = Q.SoughtAt.refused
      join_by y q (Q.SoughtAt.read {vs} {found} m b t) =
          let n : found.count + 1 ≡ length (first.0 ∷ vs) = omega arith in
          Q.SoughtAt.read n (begins_more s k first.0 vs here found.start next.at first.1 b) (both_keep first.2 t)

      pub side_some : (joint : Sought) → joint ≡ sought_joined k here keeps rest → SoughtAt s k (from side s here.at) joint
      side_some joint j = rw (j, behind) (join_by (from behind_comma s next.at) rest (rw (comma_begun s next.at, d) at known))
