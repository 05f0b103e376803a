-- The stages of APPND put together: what each of its answers comes to, and what is known of two files that were found.
use Prim.Native.Nat.{ℕ}
use mathlib.Core.Path.{◌≡◌, refl, sym, ap, ◌∙◌}
use mathlib.Core.Bool.{true, false, not}
use mathlib.Core.List.{List, ◌∷◌, ◌++◌}
use mathlib.Core.Logic.{◌⊎◌, inl, inr}
use mathlib.Core.Option.{Option, none, some}
use native.Mathlib.Omega.{arith}
use borrow.Author.Tests.{ne_eqb, not-false}
use Rattle.answers.specs.Refusals.{Row, row, first_of, on_success}
use Rattle.answers.specs.Stage.{Verdict, Clear, Refused as Stopped, verdict_of}
use Rattle.answers.specs.Missing.{missing}
use Rattle.answers.proofs.Refusals.{pass, none_given, behind_refused}
use Rattle.answers.proofs.Stage.{told_clear, told_refused}
use Rattle.pack.specs.declared.Geometry.{Geometry}
use Rattle.pack.specs.declared.Entry.{Entry}
use Rattle.pack.specs.declared.Key.{Key}
use Rattle.pack.specs.Geometry.{geometry_of, slots}
use Rattle.pack.specs.Entry.{entry_of}
use Rattle.consistency.specs.ConsistentTest.{Opened}
use Rattle.std.specs.Prelude.{Some, None}
use Rattle.consistency.specs.ConsistentTest.{consistent, opened_of}
use Rattle.consistency.proofs.ConsistentTestIff.{opened_good, opened_bad}
use Rattle.consistency.proofs.ConsistentTestOpened.{consistent_good}
use Rattle.asking.specs.KeysTest.{legal_key, found, find_from}
use Rattle.asking.specs.Asked.{entry_no, file_of}
use Rattle.asking.proofs.AskedStage.{found_at, number_found}
use Rattle.pack.specs.KeyTest.{same_key}
use Rattle.appending.specs.AppndRows.{name_rows, permit_rows, appnd_rows}
use Rattle.appending.specs.AppndStage.{Both, Files, Missing, Join, Refused, both_at, both_of, appending_of}

-- what is known of two names that nothing is wrong with
record Named (first second : Key) : Type 0 where
  legal : legal_key first ≡ true
  legal₂ : legal_key second ≡ true
  apart : same_key first second ≡ false

named : (first second : Key) → first_of (name_rows first second) ≡ 0 → Named first second
unfolding name_rows
named first second is =
    let one = none_given _ _ _ (λ is. omega (arith, is)) is in
    let two = none_given _ _ _ (λ is. omega (arith, is)) one.1 in
    let three = none_given _ _ _ (λ is. omega (arith, is)) two.1 in
    record { legal = not-false _ one.0; legal₂ = not-false _ two.0; apart = three.0 }

-- two files looked for, at the measures that the code read
record Pair (img : List ℕ) (g : Geometry) (first second : Key) (e : ℕ) (x : Entry) (f : ℕ) (y : Entry) : Type 0 where
  there : find_from img g first 0 (slots g) ≡ some e
  there₂ : find_from img g second 0 (slots g) ≡ some f
  entry : x ≡ entry_of img g e
  entry₂ : y ≡ entry_of img g f

module _ (img : List ℕ) (g : Geometry) (first second : Key) where
  both_by : (o p : Option ℕ) → find_from img g first 0 (slots g) ≡ o → find_from img g second 0 (slots g) ≡ p → (e : ℕ) (x : Entry) (f : ℕ) (y : Entry)
      → both_at img g o p ≡ Files e x f y → Pair img g first second e x f y
  unfolding both_at
  both_by none p one two e x f y is = let z : ◌≡◌ {A = ℕ} 0 1 = cc in absurd (omega arith)
  both_by (some i) none one two e x f y is = let z : ◌≡◌ {A = ℕ} 0 1 = cc in absurd (omega arith)
  both_by (some i) (some j) one two e x f y is =
      let same : i ≡ e = cc in
      let same₂ : j ≡ f = cc in
      let entry : entry_of img g i ≡ x = cc in
      let entry₂ : entry_of img g j ≡ y = cc in
      record {
        there = one ∙ ap some same;
        there₂ = two ∙ ap some same₂;
        entry = sym entry ∙ ap (entry_of img g) same;
        entry₂ = sym entry₂ ∙ ap (entry_of img g) same₂;
      }

  both_found : (e : ℕ) (x : Entry) (f : ℕ) (y : Entry) → both_of img g first second ≡ Files e x f y → Pair img g first second e x f y
  unfolding both_of
  both_found e x f y is = both_by (find_from img g first 0 (slots g)) (find_from img g second 0 (slots g)) refl refl e x f y is

  -- one of two files that were not both found is nowhere
  both_none : (o p : Option ℕ) → find_from img g first 0 (slots g) ≡ o → find_from img g second 0 (slots g) ≡ p → both_at img g o p ≡ Missing
      → (find_from img g first 0 (slots g) ≡ none) ⊎ ((e : ℕ) × (find_from img g first 0 (slots g) ≡ some e) × (find_from img g second 0 (slots g) ≡ none))
  unfolding both_at
  both_none none p one two is = inl one
  both_none (some e) none one two is = inr (e, one, two)
  both_none (some e) (some f) one two is = let z : ◌≡◌ {A = ℕ} 0 1 = cc in absurd (omega arith)

  both_missing : both_of img g first second ≡ Missing
      → (find_from img g first 0 (slots g) ≡ none) ⊎ ((e : ℕ) × (find_from img g first 0 (slots g) ≡ some e) × (find_from img g second 0 (slots g) ≡ none))
  unfolding both_of
  both_missing is = both_none (find_from img g first 0 (slots g)) (find_from img g second 0 (slots g)) refl refl is

-- the entry that was found is the one that the request speaks of
found_entry : (img : List ℕ) (key : Key) (g : Geometry) (e : ℕ) (x : Entry) → geometry_of img ≡ g → found img key ≡ some e → x ≡ entry_of img g e → x ≡ file_of img key
unfolding file_of entry_no
found_entry img key g e x measures there is = rw there (is ∙ ap (λ (h : Geometry). entry_of img h e) (sym measures))

-- what the rows decide in a pack that was opened
module _ (img : List ℕ) (first second : Key) (caller : ℕ) (opened : Opened) (known : opened ≡ opened_of img) where
  code_decided : {code : ℕ} → first_of (appnd_rows img first second caller) ≡ code → (code ≡ 0 → ⊥) → Refused code ≡ appending_of img first second caller
  unfolding appending_of on_success
  code_decided {code} is never = rw (is, ne_eqb code 0 never)

  -- the rows of existence and of the two files
  behind : List Row
  behind = row (missing (found img first)) 0o2 ∷ (row (missing (found img second)) 0o2 ∷ permit_rows caller (file_of img first) (file_of img second))

  pub decided_40 : opened ≡ None → Refused 0o40 ≡ appending_of img first second caller
  unfolding appnd_rows name_rows first_of
  decided_40 bad = code_decided (rw (opened_bad img (sym known ∙ bad))) (λ is. omega (arith, is))

  module _ (g : Geometry) (good : opened ≡ Some g) (verdict : Verdict) (judged : verdict ≡ verdict_of (name_rows first second)) where
    right : consistent img ≡ true
    right = sym (consistent_good img opened g known good)

    measures : geometry_of img ≡ g
    measures = (opened_good img g (sym known ∙ good)).1

    pub decided_named : (code : ℕ) → verdict ≡ Stopped code → Refused code ≡ appending_of img first second caller
    unfolding appnd_rows behind
    decided_named code told =
        let r = told_refused (name_rows first second) verdict judged code told in
        let wrong : first_of (name_rows first second ++ behind) ≡ code = behind_refused behind (name_rows first second) r.first r.never in
        code_decided (pass 0o40 (name_rows first second ++ behind) (ap not right) ∙ wrong) r.never

    module _ (clear : verdict ≡ Clear) (both : Both) (sought : both ≡ both_of img g first second) where
      names : Named first second
      names = named first second (told_clear (name_rows first second) verdict judged clear)

      decided_first : found img first ≡ none → Refused 0o2 ≡ appending_of img first second caller
      unfolding appnd_rows name_rows first_of
      decided_first h = code_decided (rw (right, names.legal, names.legal₂, names.apart, h)) (λ is. omega (arith, is))

      decided_second : (e : ℕ) → found img first ≡ some e → found img second ≡ none → Refused 0o2 ≡ appending_of img first second caller
      unfolding appnd_rows name_rows first_of
      decided_second e there h = code_decided (rw (right, names.legal, names.legal₂, names.apart, there, h)) (λ is. omega (arith, is))

      pub decided_missing : both ≡ Missing → Refused 0o2 ≡ appending_of img first second caller
      decided_missing told = by (both_missing img g first second (sym sought ∙ told))
        where
          by : (find_from img g first 0 (slots g) ≡ none) ⊎ ((e : ℕ) × (find_from img g first 0 (slots g) ≡ some e) × (find_from img g second 0 (slots g) ≡ none))
              → Refused 0o2 ≡ appending_of img first second caller
          by (inl one) = decided_first (found_at img first g none measures (sym one))
          by (inr two) =
              decided_second two.0 (found_at img first g (some two.0) measures (sym two.1)) (found_at img second g none measures (sym two.2))

      module _ (e : ℕ) (x : Entry) (f : ℕ) (y : Entry) (told : both ≡ Files e x f y)
          (files : Verdict) (permitted : files ≡ verdict_of (permit_rows caller x y)) where
        pair : Pair img g first second e x f y
        pair = both_found img g first second e x f y (sym sought ∙ told)

        there_first : found img first ≡ some e
        there_first = found_at img first g (some e) measures (sym pair.there)

        there_second : found img second ≡ some f
        there_second = found_at img second g (some f) measures (sym pair.there₂)

        x_is : x ≡ file_of img first
        x_is = found_entry img first g e x measures there_first pair.entry

        y_is : y ≡ file_of img second
        y_is = found_entry img second g f y measures there_second pair.entry₂

        -- the files decide
        files_decide : first_of (appnd_rows img first second caller) ≡ first_of (permit_rows caller x y)
        unfolding appnd_rows name_rows permit_rows first_of
        files_decide = rw (right, names.legal, names.legal₂, names.apart, there_first, there_second, x_is, y_is)

        pub decided_forbidden : (code : ℕ) → files ≡ Stopped code → Refused code ≡ appending_of img first second caller
        decided_forbidden code refused =
            let r = told_refused (permit_rows caller x y) files permitted code refused in
            code_decided (files_decide ∙ r.first) r.never

        pub decided_join : files ≡ Clear → Join g e x f y ≡ appending_of img first second caller
        unfolding appending_of on_success
        decided_join passed =
            rw (
              files_decide,
              told_clear (permit_rows caller x y) files permitted passed,
              measures,
              x_is,
              y_is,
              sym (number_found img first there_first),
              sym (number_found img second there_second),
            )
