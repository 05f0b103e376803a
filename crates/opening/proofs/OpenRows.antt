-- The rows of an open behind those of the file: the verdict that each return gives, and what is known of a file that passes them all.
use Prim.Native.Nat.{ℕ, ◌<◌}
use mathlib.Core.Path.{◌≡◌, sym, ◌∙◌}
use mathlib.Core.Bool.{Bool, true, false, not, ◌&&◌}
use mathlib.Core.List.{[], ◌∷◌}
use native.Mathlib.Omega.{arith}
use lib.Dec.{eqb, ltb}
use borrow.Author.Tests.{eq-eqb, ne_eqb, leb-false}
use Rattle.answers.specs.Stage.{Verdict}
use Rattle.answers.specs.Stage.{Clear, Refused}
use Rattle.answers.specs.Refusals.{row, first_of, on_success}
use Rattle.answers.specs.Stage.{verdict_of}
use Rattle.answers.proofs.Refusals.{none_given, pass, behind_refused}
use Rattle.answers.proofs.Stage.{makes_refused, told_refused}
use Rattle.pack.specs.declared.Entry.{Entry}
use Rattle.asking.specs.declared.Right.{Right}
use Rattle.asking.specs.RightsTest.{may}
use Rattle.asking.specs.Opens.{opens}
use Rattle.asking.specs.OpensTest.{is_full}
use Rattle.opening.specs.declared.Opening.{Opening}
use Rattle.opening.specs.OpenRows.{right_for, is_update, is_extension, is_writing, mode_rows, opening_rows}

-- can the file be open in this mode too? The tests are as the code made them, of what it was told of the mode.
module _ (mode : Opening) (x : Entry) (extends : Bool) (is-extends : extends ≡ is_extension mode) where
  pub mode_5 : (extends && eqb x.kind 1) ≡ true → Refused 0o5 ≡ verdict_of (mode_rows mode x)
  unfolding verdict_of on_success first_of
  mode_5 is = rw (sym is-extends, is)

  module _ (first : (extends && eqb x.kind 1) ≡ false) (updates : Bool) (is-updates : updates ≡ is_update mode) where
    pub mode_43 : (updates && eqb x.kind 2) ≡ true → Refused 0o43 ≡ verdict_of (mode_rows mode x)
    unfolding verdict_of on_success first_of
    mode_43 is = rw (sym is-extends, first, sym is-updates, is)

    module _ (second : (updates && eqb x.kind 2) ≡ false) (writes : Bool) (is-writes : writes ≡ is_writing mode) where
      pub mode_4 : (writes && ltb 0 x.writer) ≡ true → Refused 0o4 ≡ verdict_of (mode_rows mode x)
      unfolding verdict_of on_success first_of
      mode_4 is = rw (sym is-extends, first, sym is-updates, second, sym is-writes, is)

      module _ (third : (writes && ltb 0 x.writer) ≡ false) (full : Bool) (is-full : full ≡ is_full x) where
        pub mode_3 : full ≡ true → Refused 0o3 ≡ verdict_of (mode_rows mode x)
        unfolding verdict_of on_success first_of
        mode_3 is = rw (sym is-extends, first, sym is-updates, second, sym is-writes, third, sym is-full, is)

        pub mode_clear : full ≡ false → Clear ≡ verdict_of (mode_rows mode x)
        unfolding verdict_of on_success first_of
        mode_clear is = rw (sym is-extends, first, sym is-updates, second, sym is-writes, third, sym is-full, is)

-- is the file whole, and may the caller open it? Behind that the mode decides.
module _ (mode : Opening) (caller : ℕ) (x : Entry) where
  pub opening_2 : x.writer ≡ 2 → Refused 0o2 ≡ verdict_of (opening_rows mode caller x)
  unfolding verdict_of on_success first_of
  opening_2 is = rw (eq-eqb x.writer 2 is)

  module _ (whole : x.writer ≡ 2 → ⊥) (right : Right) (needed : right ≡ right_for mode) where
    -- what the row of the right judges is judged here
    pub opening_6 : (verdict : Verdict) → verdict ≡ verdict_of (row (not (may right caller x.uic x.protect)) 0o6 ∷ []) → (code : ℕ) → verdict ≡ Refused code
        → Refused code ≡ verdict_of (opening_rows mode caller x)
    opening_6 verdict asked code is =
        let r = told_refused _ verdict asked code is in
        makes_refused _ (sym (pass _ _ (ne_eqb x.writer 2 whole) ∙ rw (sym needed) (behind_refused (mode_rows mode x) _ r.first r.never))) r.never

    pub opening_mode : may right caller x.uic x.protect ≡ true → (verdict : Verdict) → verdict ≡ verdict_of (mode_rows mode x)
        → verdict ≡ verdict_of (opening_rows mode caller x)
    unfolding verdict_of on_success first_of
    opening_mode given verdict judged = rw (ne_eqb x.writer 2 whole, sym needed, given) judged

-- where no row is given
pub record Openable (mode : Opening) (x : Entry) : Type 0 where
  pub extensible : (is_extension mode && eqb x.kind 1) ≡ false
  pub updatable : (is_update mode && eqb x.kind 2) ≡ false
  pub few : opens x < 62

pub openable : (mode : Opening) (caller : ℕ) (x : Entry) → first_of (opening_rows mode caller x) ≡ 0 → Openable mode x
unfolding is_full
openable mode caller x none =
    let created = none_given _ _ _ (λ z. omega (arith, z)) none in
    let denied = none_given _ _ _ (λ z. omega (arith, z)) created.1 in
    let contiguous = none_given _ _ _ (λ z. omega (arith, z)) denied.1 in
    let linked = none_given _ _ _ (λ z. omega (arith, z)) contiguous.1 in
    let written = none_given _ _ _ (λ z. omega (arith, z)) linked.1 in
    let full = none_given _ _ _ (λ z. omega (arith, z)) written.1 in
    record { extensible = contiguous.0; updatable = linked.0; few = leb-false 62 _ full.0 }
