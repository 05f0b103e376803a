-- A device and a file, as the code passes over them.
use Prim.Native.Nat.{ℕ, ◌+◌, ◌≤◌, ◌<◌}
use mathlib.Core.Path.{◌≡◌, refl, sym, ap, ◌∙◌}
use mathlib.Core.Bool.{Bool}
use mathlib.Core.List.{List}
use mathlib.Core.Option.{Option, none, some}
use native.Mathlib.Omega.{arith}
use borrow.Author.Tests.{le-leb, lt-leb}
use lib.ListN.{drop}
use lib.Seq.{drop-drop}
use Rattle.radix.specs.Names.{is_letter_or_digit}
use Rattle.command_grammar.specs.Parsed.{Device, FileName}
use Rattle.command_grammar.specs.Reader.{Res, ok, no, mapped, later, moved, from, mk_head, span, device, file, head, head_from}
use Rattle.command_cursor.specs.declared.Cursor.{Cursor}
use Rattle.command_cursor.specs.Part as P
use Rattle.command_parts.specs.Passed.{passed, passing, unit_of_device}
use Rattle.command_parts.specs.Passing as W
use Rattle.command_parts.proofs.Passed.{passed_mapped, passing_ok, passing_no}

moved_later : (i n : ℕ) (d : Option Device) (r : Res (Option FileName)) → moved i (later n (mk_head d) r) ≡ mapped (mk_head d) (moved (i + n) r)
moved_later i n d (ok f m) = ap (ok (mk_head d f)) (omega arith)
moved_later i n d (no m) = ap no (omega arith)

pub moved_mapped : (i : ℕ) (d : Option Device) (r : Res (Option FileName)) → moved i (mapped (mk_head d) r) ≡ mapped (mk_head d) (moved i r)
moved_mapped i d (ok f m) = refl
moved_mapped i d (no m) = refl

module _ (s : List ℕ) (i : ℕ) where
  with_from : (d : Device) (j : ℕ) (r : Res Device) → device (drop i s) ≡ r → moved i r ≡ ok d j → from head s i ≡ mapped (mk_head (some d)) (from file s j)
  unfolding from head head_from
  with_from d j (ok x n) e h =
      let p : x ≡ d = cc in
      let q : i + n ≡ j = cc in
      rw (e, moved_later i n (some x) (file (drop n (drop i s))), drop-drop n i s, p, q)
  with_from d j (no n) e h = let z : ◌≡◌ {A = ℕ} 0 1 = cc in absurd (omega arith)

  pub head_with : (d : Device) (j : ℕ) → from device s i ≡ ok d j → from head s i ≡ mapped (mk_head (some d)) (from file s j)
  unfolding from
  head_with d j h = with_from d j (device (drop i s)) refl h

  module _ (place e : ℕ) (q : e ≡ i + span is_letter_or_digit 6 (drop i s)) where
    without_from : (r : Res Device) → device (drop i s) ≡ r → moved i r ≡ no place → place ≤ e → from head s i ≡ mapped (mk_head none) (from file s i)
    unfolding from head head_from
    without_from (ok d n) c h l = let z : ◌≡◌ {A = ℕ} 0 1 = cc in absurd (omega arith)
    without_from (no n) c h l =
        let p : i + n ≡ place = cc in
        rw (c, le-leb n (span is_letter_or_digit 6 (drop i s)) (omega arith)) (moved_mapped i none (file (drop i s)))

    neither_from : (r : Res Device) → device (drop i s) ≡ r → moved i r ≡ no place → e < place → from head s i ≡ no place
    unfolding from head head_from
    neither_from (ok d n) c h l = let z : ◌≡◌ {A = ℕ} 0 1 = cc in absurd (omega arith)
    neither_from (no n) c h l =
        let p : i + n ≡ place = cc in
        rw (c, lt-leb n (span is_letter_or_digit 6 (drop i s)) (omega arith), p)

    pub head_without : from device s i ≡ no place → place ≤ e → from head s i ≡ mapped (mk_head none) (from file s i)
    unfolding from
    head_without h l = without_from (device (drop i s)) refl h l

    pub head_neither : from device s i ≡ no place → e < place → from head s i ≡ no place
    unfolding from
    head_neither h l = neither_from (device (drop i s)) refl h l

module _ (s : List ℕ) (i : ℕ) where
  pub pass_with : (next : Cursor) (keeps : Bool) → passing unit_of_device (from device s i) ≡ W.Read next keeps → passed (from file s next.at) ≡ passed (from head s i)
  pass_with next keeps h =
      let d = passing_ok unit_of_device next keeps (from device s i) h in
      passed_mapped (mk_head (some d.0)) (from file s next.at) ∙ ap passed (sym (head_with s i d.0 next.at d.1))

  module _ (place e : ℕ) (q : e ≡ i + span is_letter_or_digit 6 (drop i s)) (h : passing unit_of_device (from device s i) ≡ W.Refused place) where
    no_device : from device s i ≡ no place
    no_device = passing_no unit_of_device place (from device s i) h

    pub pass_without : place ≤ e → passed (from file s i) ≡ passed (from head s i)
    pass_without l = passed_mapped (mk_head none) (from file s i) ∙ ap passed (sym (head_without s i place e q no_device l))

    pub pass_neither : e < place → P.Refused place ≡ passed (from head s i)
    unfolding passed
    pass_neither l = rw (head_neither s i place e q no_device l)
