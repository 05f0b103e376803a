-- The fields of an entry in use: each test is true exactly if the rule holds.
use Prim.Native.Nat.{ℕ, ◌+◌, ◌≤◌}
use mathlib.Core.Path.{◌≡◌, sym, ap, ◌∙◌}
use mathlib.Core.Bool.{true, not, ◌&&◌}
use mathlib.Core.List.{List}
use mathlib.Core.Logic.{◌⊎◌, inl, inr, ◌↔◌}
use native.Mathlib.Omega.{arith}
use native.Mathlib.Decide.{ℕ_discrete}
use lib.Dec.{eqb, leb, ltb}
use borrow.Author.Tests.{eq-eqb, ne_eqb, eqb-true, eqb-false, le-leb, leb-true, le-ltb, ltb-false, not-true}
use Rattle.radix.specs.Names.{LegalName, LegalExtension}
use Rattle.radix.specs.NamesTest.{legal_name, legal_extension}
use Rattle.radix.proofs.Names.{name_iff, extension_iff}
use Rattle.pack.specs.declared.Geometry.{Geometry}
use Rattle.pack.specs.declared.Entry.{Entry}
use Rattle.pack.specs.Header.{Listed}
use Rattle.pack.specs.File.{next_of, after, last_of, one}
use Rattle.pack.specs.Entry.{Contiguous, Linked}
use Rattle.answers.proofs.RefusalsTests.{and_left, and_right, and_both}
use Rattle.pack.proofs.HeaderTestWords.{listed_iff}
use Rattle.consistency.specs.EntryTest.{key_test, WriterRight, writer_test, kind_test, opens_test, fields_test, end_test}
use Rattle.consistency.proofs.WalkSteps.{last_run}

pub record Fields (img : List ℕ) (x : Entry) : Type 0 where
  pub name : LegalName x.name1 x.name2
  pub extension : LegalExtension x.extension
  pub uic : Listed img x.uic
  pub protect : x.protect ≤ 255
  pub kind : kind_test x.kind x.length x.writer ≡ true
  pub opens : x.readers + one (ltb 0 x.writer) ≤ 62

pub fields_iff : (img : List ℕ) (x : Entry) → fields_test img x ≡ true ↔ Fields img x
unfolding fields_test key_test opens_test
fields_iff img x = (means, tested)
  where
    means : (key_test img x && (leb x.protect 255 && (kind_test x.kind x.length x.writer && opens_test x.writer x.readers))) ≡ true → Fields img x
    means test =
        let key = and_left (key_test img x) _ test in
        let behind = and_right (legal_name x.name1 x.name2) _ key in
        let rest = and_right (key_test img x) _ test in
        let last = and_right (leb x.protect 255) _ rest in
        record {
          name = (name_iff x.name1 x.name2).0 (and_left (legal_name x.name1 x.name2) _ key);
          extension = (extension_iff x.extension).0 (and_left (legal_extension x.extension) _ behind);
          uic = (listed_iff img x.uic).0 (and_right (legal_extension x.extension) _ behind);
          protect = leb-true _ _ (and_left (leb x.protect 255) _ rest);
          kind = and_left (kind_test x.kind x.length x.writer) _ last;
          opens = leb-true _ _ (and_right (kind_test x.kind x.length x.writer) _ last);
        }

    tested : Fields img x → (key_test img x && (leb x.protect 255 && (kind_test x.kind x.length x.writer && opens_test x.writer x.readers))) ≡ true
    tested f =
        and_both (and_both ((name_iff _ _).1 f.name) (and_both ((extension_iff _).1 f.extension) ((listed_iff img _).1 f.uic)))
        (and_both (le-leb _ _ f.protect) (and_both f.kind (le-leb _ _ f.opens)))

none_or_u : (writer : ℕ) → writer ≤ 1 → (writer ≡ 0) ⊎ (writer ≡ 1)
none_or_u writer few = elim (ℕ_discrete writer 0) [ yes e ↦ inl e | no e ↦ inr (omega (arith, e)) ]

none_o_or_e : (writer : ℕ) → writer ≤ 3 → (writer ≡ 1 → ⊥) → (writer ≡ 0) ⊎ ((writer ≡ 2) ⊎ (writer ≡ 3))
none_o_or_e writer few other =
    elim (ℕ_discrete writer 0) [
      | yes e ↦ inl e
      | no e ↦ elim (ℕ_discrete writer 2) [ yes f ↦ inr (inl f) | no f ↦ inr (inr (omega (arith, e, f, other))) ]
    ]

-- the writer goes with the kind
module _ (kind writer : ℕ) where
  written : Dec (kind ≡ 1) → writer_test kind writer ≡ true → WriterRight kind writer
  unfolding writer_test
  written (yes is) test = inl (is, none_or_u writer (leb-true _ _ (simp (eq-eqb kind 1 is) at test)))
  written (no other) test =
      let h = simp (ne_eqb kind 1 other) at test in
      let behind = and_right (eqb kind 2) (not (eqb writer 1) && leb writer 3) h in
      let not_u = eqb-false writer 1 (not-true _ (and_left (not (eqb writer 1)) (leb writer 3) behind)) in
      let few = leb-true writer 3 (and_right (not (eqb writer 1)) (leb writer 3) behind) in
      inr (eqb-true kind 2 (and_left (eqb kind 2) (not (eqb writer 1) && leb writer 3) h), none_o_or_e writer few not_u)

  tested : WriterRight kind writer → writer_test kind writer ≡ true
  unfolding writer_test
  tested (inl (is, who)) = simp (eq-eqb kind 1 is, le-leb writer 1 (few who))
    where
      few : (writer ≡ 0) ⊎ (writer ≡ 1) → writer ≤ 1
      few (inl is) = omega arith
      few (inr is) = omega arith
  tested (inr (is, who)) = simp (ne_eqb kind 1 (λ other. omega (arith, other, is)), eq-eqb kind 2 is, ne_eqb writer 1 (not_u who), le-leb writer 3 (few who))
    where
      few : (writer ≡ 0) ⊎ ((writer ≡ 2) ⊎ (writer ≡ 3)) → writer ≤ 3
      few (inl is) = omega arith
      few (inr (inl is)) = omega arith
      few (inr (inr is)) = omega arith

      not_u : (writer ≡ 0) ⊎ ((writer ≡ 2) ⊎ (writer ≡ 3)) → writer ≡ 1 → ⊥
      not_u (inl is) u = omega arith
      not_u (inr (inl is)) u = omega arith
      not_u (inr (inr is)) u = omega arith

  pub writer_iff : (writer_test kind writer ≡ true) ↔ WriterRight kind writer
  writer_iff = (written (ℕ_discrete kind 1), tested)

-- a contiguous file has some length
some_length : (kind length : ℕ) → kind ≡ 1 → not (eqb kind 1 && ltb length 1) ≡ true → 1 ≤ length
some_length kind length is test = ltb-false length 1 (not-true _ (simp (eq-eqb kind 1 is) at test))

-- the two ends that the test looks at, at a kind
abbrev LastAt : List ℕ → Geometry → Entry → ℕ → ℕ
LastAt img g x kind = last_of (next_of img g kind) 0 x.length x.first.0

abbrev AfterAt : List ℕ → Geometry → Entry → ℕ → ℕ
AfterAt img g x kind = after (next_of img g kind) x.length x.first.0

-- an entry whose kind, length, writer and end are right is that of a contiguous or a linked file, and the other way
module _ (img : List ℕ) (g : Geometry) (x : Entry) where
  last_is : end_test img g x ≡ true → LastAt img g x x.kind ≡ x.last.0
  unfolding end_test
  last_is test = eqb-true _ _ (and_left (eqb (LastAt img g x x.kind) x.last.0) _ test)

  after_is : (x.kind ≡ 1 → ⊥) → end_test img g x ≡ true → AfterAt img g x x.kind ≡ 0
  unfolding end_test
  after_is other test = let h = and_right (eqb (LastAt img g x x.kind) x.last.0) _ test in eqb-true _ _ (simp (ne_eqb _ _ other) at h)

  kind_of : kind_test x.kind x.length x.writer ≡ true → end_test img g x ≡ true → Contiguous x ⊎ Linked img g x
  unfolding kind_test
  kind_of kind test =
      at (and_left (not (eqb x.kind 1 && ltb x.length 1)) _ kind) ((writer_iff _ _).0 (and_right (not (eqb x.kind 1 && ltb x.length 1)) _ kind))
    where
      at : not (eqb x.kind 1 && ltb x.length 1) ≡ true → WriterRight x.kind x.writer → Contiguous x ⊎ Linked img g x
      at long (inl (is, who)) =
          let some : 1 ≤ x.length = some_length x.kind x.length is long in
          inl (record {
            kind = is;
            length = some;
            last = omega (arith, last_is test, last_run img g 0 x.length x.first.0 some, ap (LastAt img g x) is);
            writer = who;
          })
      at long (inr (is, who)) =
          inr (record {
            kind = is;
            end = sym (ap (AfterAt img g x) is) ∙ after_is (λ other. omega (arith, other, is)) test;
            last = sym (ap (LastAt img g x) is) ∙ last_is test;
            writer = who;
          })

  of_kind : Contiguous x ⊎ Linked img g x → kind_test x.kind x.length x.writer ≡ true
  unfolding kind_test
  of_kind (inl f) = simp (eq-eqb _ _ f.kind, le-ltb _ _ f.length, (writer_iff x.kind x.writer).1 (inl (f.kind, f.writer)))
  of_kind (inr f) =
      simp (ne_eqb x.kind 1 (λ other. omega (arith, other, f.kind)), (writer_iff x.kind x.writer).1 (inr (f.kind, f.writer)))

  of_end : Contiguous x ⊎ Linked img g x → end_test img g x ≡ true
  unfolding end_test
  of_end (inl f) =
      let last : LastAt img g x x.kind ≡ x.last.0 = omega (arith, f.last, last_run img g 0 x.length x.first.0 f.length, ap (LastAt img g x) f.kind) in
      and_both (eq-eqb _ _ last) (simp (eq-eqb _ _ f.kind))
  of_end (inr f) =
      and_both (eq-eqb _ _ (ap (LastAt img g x) f.kind ∙ f.last))
      (simp (ne_eqb x.kind 1 (λ one. omega (arith, one, f.kind)), eq-eqb _ _ (ap (AfterAt img g x) f.kind ∙ f.end)))

  pub kind_iff : ((kind_test x.kind x.length x.writer ≡ true) × (end_test img g x ≡ true)) ↔ (Contiguous x ⊎ Linked img g x)
  kind_iff = (λ tests. kind_of tests.0 tests.1, λ kind. (of_kind kind, of_end kind))
