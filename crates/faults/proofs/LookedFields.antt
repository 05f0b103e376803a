-- The look at words 0 to 3 and 9 to 15 of an entry in use, return by return, and at the entries before it.
use Prim.Native.Nat.{ℕ, ◌+◌, ◌≤◌, ◌<◌}
use mathlib.Core.Path.{◌≡◌, refl, sym, ap, ◌∙◌}
use mathlib.Core.Bool.{Bool, true, false, cond, not, ◌&&◌}
use mathlib.Core.List.{List}
use native.Mathlib.Omega.{arith}
use lib.Dec.{eqb, ltb}
use borrow.Author.Tests.{leb-true, le-leb}
use Rattle.answers.proofs.RefusalsTests.{and_left, and_right, and_both, true_not_false}
use Rattle.radix.specs.Characters.{character_of, table}
use Rattle.radix.specs.Packing.{first_code, third_code, characters_of}
use Rattle.radix.specs.Names.{LegalName, LegalExtension}
use Rattle.radix.specs.NamesTest.{legal_name, legal_extension}
use Rattle.radix.proofs.Names.{name_iff, extension_iff}
use Rattle.radix.proofs.NamesTest.{name_test_law}
use Rattle.pack.specs.declared.Entry.{Entry}
use Rattle.pack.specs.declared.Geometry.{Geometry}
use Rattle.pack.specs.declared.Key.{Key}
use Rattle.pack.specs.Geometry.{geometry_of}
use Rattle.pack.specs.Header.{Listed}
use Rattle.pack.specs.HeaderTest.{listed}
use Rattle.pack.specs.File.{one}
use Rattle.pack.specs.Entry.{entry_word, entry_of}
use Rattle.pack.specs.Key.{key_in}
use Rattle.pack.specs.KeyTest.{same_key}
use Rattle.pack.proofs.HeaderTestWords.{listed_iff}
use Rattle.pack.proofs.KeySame.{same_key_iff, same_read}
use Rattle.faults.specs.Rules.{RightField}
use Rattle.consistency.specs.EntryTest.{WriterRight, writer_test, opens_test}
use Rattle.consistency.proofs.EntryTestFields.{writer_iff}
use Rattle.faults.specs.Looking.{FirstWrong, FieldRight, OtherKey}

-- a legal name begins with a word if it is one with a second word of blanks
blank_extension : legal_extension 0 ≡ true
unfolding legal_extension characters_of character_of table
blank_extension = refl

pub begins_not : (first : ℕ) → legal_name first 0 ≡ false → (second : ℕ) × LegalName first second → ⊥
begins_not first wrong (second, legal) =
    true_not_false (sym (name_test_law first 0 ∙ by (eqb (third_code first) 0) (sym (name_test_law first second) ∙ (name_iff first second).1 legal)) ∙ wrong)
  where
    by : (t : Bool) → (not (eqb (first_code first) 0) && (legal_extension first && cond t (eqb second 0) (legal_extension second))) ≡ true
        → (not (eqb (first_code first) 0) && (legal_extension first && cond t (eqb 0 0) (legal_extension 0))) ≡ true
    by t is =
        let rest = and_right (not (eqb (first_code first) 0)) _ is in
        and_both (and_left (not (eqb (first_code first) 0)) _ is) (and_both (and_left (legal_extension first) _ rest) (blank t))
      where
        blank : (t : Bool) → cond t (eqb 0 0) (legal_extension 0) ≡ true
        blank true = refl
        blank false = blank_extension

-- words 0 to 3
module _ (img : List ℕ) (x : Entry) (e : ℕ) where
  key_field : {w : ℕ} → w < 4 → (w ≡ 0 → (second : ℕ) × LegalName x.name1 second) → (w ≡ 1 → LegalName x.name1 x.name2)
      → (w ≡ 2 → LegalExtension x.extension) → (w ≡ 3 → Listed img x.uic) → RightField img e w x
  key_field few begins name extension uic =
      record {
        begins = begins;
        name = name;
        extension = extension;
        uic = uic;
        protect = λ at. absurd (omega (arith, at));
        kind = λ at. absurd (omega (arith, at));
        writer = λ at. absurd (omega (arith, at));
        opens = λ at. absurd (omega (arith, at));
        rest = λ low. absurd (omega arith);
      }

  -- a word that is not looked at yet
  later : {A : Type 0} {w k v : ℕ} → w < k → k ≤ v → w ≡ v → A
  later less most is = absurd (omega (arith, less, most, is))

  pub key_begins : legal_name x.name1 0 ≡ false → FirstWrong (FieldRight img e x) 0 4 0
  key_begins wrong =
      record {
        low = omega arith;
        high = omega arith;
        before = λ i low less. absurd (omega arith);
        wrong = λ inside right. begins_not x.name1 wrong (right.begins refl);
      }

  module _ (b : legal_name x.name1 0 ≡ true) where
    begins : (second : ℕ) × LegalName x.name1 second
    begins = (0, (name_iff x.name1 0).0 b)

    pub key_name : legal_name x.name1 x.name2 ≡ false → FirstWrong (FieldRight img e x) 0 4 1
    key_name wrong =
        record {
          low = omega arith;
          high = omega arith;
          before = λ i low less. key_field (omega arith) (λ at. begins) (later less (omega arith)) (later less (omega arith)) (later less (omega arith));
          wrong = λ inside right. true_not_false (sym ((name_iff _ _).1 (right.name refl)) ∙ wrong);
        }

    module _ (n : legal_name x.name1 x.name2 ≡ true) where
      name : LegalName x.name1 x.name2
      name = (name_iff x.name1 x.name2).0 n

      pub key_extension : legal_extension x.extension ≡ false → FirstWrong (FieldRight img e x) 0 4 2
      key_extension wrong =
          record {
            low = omega arith;
            high = omega arith;
            before = λ i low less. key_field (omega arith) (λ at. begins) (λ at. name) (later less (omega arith)) (later less (omega arith));
            wrong = λ inside right. true_not_false (sym ((extension_iff _).1 (right.extension refl)) ∙ wrong);
          }

      module _ (k : legal_extension x.extension ≡ true) where
        extension : LegalExtension x.extension
        extension = (extension_iff x.extension).0 k

        pub key_uic : listed img x.uic ≡ false → FirstWrong (FieldRight img e x) 0 4 3
        key_uic wrong =
            record {
              low = omega arith;
              high = omega arith;
              before = λ i low less. key_field (omega arith) (λ at. begins) (λ at. name) (λ at. extension) (later less (omega arith));
              wrong = λ inside right. true_not_false (sym ((listed_iff img x.uic).1 (right.uic refl)) ∙ wrong);
            }

        pub key_right : listed img x.uic ≡ true → FirstWrong (FieldRight img e x) 0 4 4
        key_right l =
            record {
              low = omega arith;
              high = omega arith;
              before = λ i low less. key_field less (λ at. begins) (λ at. name) (λ at. extension) (λ at. (listed_iff img x.uic).0 l);
              wrong = λ inside. absurd (omega arith);
            }

  -- words 9 and 10
  opens_field : {w : ℕ} → 9 ≤ w → w < 11 → WriterRight x.kind x.writer → (w ≡ 10 → x.readers + one (ltb 0 x.writer) ≤ 62) → RightField img e w x
  opens_field low few writer opens =
      record {
        begins = λ at. absurd (omega (arith, at));
        name = λ at. absurd (omega (arith, at));
        extension = λ at. absurd (omega (arith, at));
        uic = λ at. absurd (omega (arith, at));
        protect = λ at. absurd (omega (arith, at));
        kind = λ at. absurd (omega (arith, at));
        writer = λ at. writer;
        opens = opens;
        rest = λ low. absurd (omega arith);
      }

  module _ {r : Bool} (w : r ≡ writer_test x.kind x.writer) where
    writer_right : r ≡ true → WriterRight x.kind x.writer
    writer_right known = (writer_iff _ _).0 (sym w ∙ known)

    pub opens_writer : r ≡ false → FirstWrong (FieldRight img e x) 9 11 9
    opens_writer wrong =
        record {
          low = omega arith;
          high = omega arith;
          before = λ i low less. absurd (omega arith);
          wrong = λ inside right. true_not_false (sym (w ∙ (writer_iff _ _).1 (right.writer refl)) ∙ wrong);
        }

    module _ (known : r ≡ true) {few : Bool} (o : few ≡ opens_test x.writer x.readers) where
      pub opens_many : few ≡ false → FirstWrong (FieldRight img e x) 9 11 10
      unfolding opens_test
      opens_many many =
          record {
            low = omega arith;
            high = omega arith;
            before = λ i low less. opens_field low (omega arith) (writer_right known) (later less (omega arith));
            wrong = λ inside right. true_not_false (sym (o ∙ le-leb _ _ (right.opens refl)) ∙ many);
          }

      pub opens_right : few ≡ true → FirstWrong (FieldRight img e x) 9 11 11
      unfolding opens_test
      opens_right is =
          record {
            low = omega arith;
            high = omega arith;
            before = λ i low less. opens_field low less (writer_right known) (λ at. leb-true _ _ (sym o ∙ is));
            wrong = λ inside. absurd (omega arith);
          }

-- words 11 to 15
module _ (img : List ℕ) {g : Geometry} (is : geometry_of img ≡ g) (x : Entry) (e : ℕ) {w word : ℕ} (low : 11 ≤ w) (u : word ≡ entry_word img g e w) where
  word_here : word ≡ entry_word img (geometry_of img) e w
  word_here = u ∙ ap (λ (h : Geometry). entry_word img h e w) (sym is)

  pub zero_wrong : (word ≡ 0 → ⊥) → FieldRight img e x w → ⊥
  zero_wrong some right = some (word_here ∙ right.rest low)

  pub zero_right : word ≡ 0 → FieldRight img e x w
  zero_right none =
      record {
        begins = λ at. absurd (omega (arith, at));
        name = λ at. absurd (omega (arith, at));
        extension = λ at. absurd (omega (arith, at));
        uic = λ at. absurd (omega (arith, at));
        protect = λ at. absurd (omega (arith, at));
        kind = λ at. absurd (omega (arith, at));
        writer = λ at. absurd (omega (arith, at));
        opens = λ at. absurd (omega (arith, at));
        rest = λ low. sym word_here ∙ none;
      }

-- an earlier entry of the same name, extension and UIC
module _ (img : List ℕ) (g : Geometry) (e f : ℕ) {a b : Key} (first : a ≡ key_in (entry_of img g f)) (second : b ≡ key_in (entry_of img g e)) {r : Bool} (is : r ≡ same_key a b) where
  tested : r ≡ same_key (key_in (entry_of img g f)) (key_in (entry_of img g e))
  tested = same_read first second is

  pub same_found : r ≡ true → OtherKey img g e f → ⊥
  same_found test other = other ((same_key_iff _ _).0 (sym tested ∙ test))

  pub same_not : r ≡ false → OtherKey img g e f
  same_not test same = true_not_false (sym ((same_key_iff _ _).1 same) ∙ (sym tested ∙ test))
