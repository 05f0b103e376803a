-- The test of an entry on a map: it is true exactly if the entry is right and its blocks can be taken.
use Prim.Native.Nat.{ℕ, ◌+◌, ◌*◌, ◌-◌, ◌≤◌, ◌<◌}
use mathlib.Core.Path.{◌≡◌, sym, ap, ◌∙◌}
use mathlib.Core.Bool.{Bool, true, ◌&&◌}
use mathlib.Core.List.{List}
use mathlib.Core.Logic.{inl, inr, ◌↔◌}
use native.Mathlib.Omega.{arith}
use native.Mathlib.Decide.{ℕ_discrete}
use borrow.Author.Tests.{eq-eqb, ne_eqb}
use Rattle.words.specs.Word.{word_at}
use Rattle.pack.specs.declared.Geometry.{Geometry}
use Rattle.pack.specs.declared.Entry.{Entry}
use Rattle.pack.specs.Geometry.{block_words, entry_at, slots}
use Rattle.pack.specs.HeaderTest.{zeros}
use Rattle.pack.specs.File.{blocks_of}
use Rattle.pack.specs.Entry.{entry_word, entry_of, blocks_at, Empty, Used, RightEntry}
use Rattle.answers.proofs.RefusalsTests.{and_left, and_right, and_both}
use Rattle.pack.proofs.HeaderTestWords.{zeros_at, zeros_all}
use Rattle.pack.proofs.EntryRead.{empty_blocks}
use Rattle.radix.proofs.Names.{name_not_zero}
use Rattle.consistency.specs.Walk.{takes}
use Rattle.consistency.specs.EntryTest.{fields_test, body_test, rest_test, entry_test}
use Rattle.consistency.specs.ConsistentTest.{UsedEnd}
use Rattle.consistency.proofs.WalkTaking.{takes_range}
use Rattle.consistency.proofs.EntryTestFields.{fields_iff, kind_iff}

-- the words of an entry from word i on, by the words of a block as they were read
pub rest_is : (img : List ℕ) (g : Geometry) (e i : ℕ) (r : Bool) {words : ℕ} → words ≡ block_words g → r ≡ zeros img (words + 16 * e + i) (16 - i)
    → r ≡ rest_test img g e i
unfolding rest_test
rest_is img g e i r size is = rw size at is

module _ (img : List ℕ) (g : Geometry) where
  pub used_stretch : (e end : ℕ) {words : ℕ} → end ≡ slots g → e < end → words ≡ block_words g → zeros img (words + 16 * e) (16 * (end - e)) ≡ true → UsedEnd img g e
  unfolding entry_word
  used_stretch e end {words} all below size test =
      record {
        most = omega (arith, all);
        empty = λ i low high. record {
          zero = λ j few.
              zeros_at img (words + 16 * e) (16 * (end - e)) (entry_at g i + j) test (omega (arith, size)) (omega (arith, size, all));
        };
      }

pub rest_iff : (img : List ℕ) (g : Geometry) (e i : ℕ) → i ≤ 16 → rest_test img g e i ≡ true ↔ ((j : ℕ) → i ≤ j → j < 16 → entry_word img g e j ≡ 0)
unfolding rest_test entry_word
rest_iff img g e i few = (
  λ test j low high. zeros_at img (entry_at g e + i) (16 - i) (entry_at g e + j) test (omega arith) (omega arith),
  λ zero. zeros_all img (entry_at g e + i) (16 - i) (λ w low high.
      let place : entry_at g e + (w - entry_at g e) ≡ w = omega arith in
      sym (ap (word_at img) place) ∙ zero (w - entry_at g e) (omega arith) (omega arith)),
)

module _ (img : List ℕ) (g : Geometry) (map : List ℕ) (e : ℕ) where
  abbrev Taken : Type 0
  Taken = takes g.bodies.0 g.blocks map (blocks_at img g e) ≡ true

  of_empty : rest_test img g e 0 ≡ true → RightEntry img g e × Taken
  unfolding takes
  of_empty test =
      let empty : Empty img g e = record { zero = λ i below. (rest_iff img g e 0 (omega arith)).0 test i (omega arith) below } in
      (inl empty, ap (takes g.bodies.0 g.blocks map) (empty_blocks img g e empty))

  pub empty_of : Empty img g e → entry_test img g map e ≡ true
  unfolding entry_test entry_of
  empty_of empty = simp (eq-eqb _ _ (empty.zero 0 (omega arith))) ((rest_iff img g e 0 (omega arith)).1 (λ i low high. empty.zero i high))

  -- the same over what was read as the entry
  module _ (x : Entry) where
    of_used : (fields_test img x && (rest_test img g e 11 && body_test img g map x)) ≡ true → Used img g e x × (takes g.bodies.0 g.blocks map (blocks_of img g x) ≡ true)
    unfolding body_test
    of_used test =
        let f = (fields_iff img x).0 (and_left (fields_test img x) _ test) in
        let behind = and_right (fields_test img x) _ test in
        let body = and_right (rest_test img g e 11) _ behind in
        let taken = and_left (takes g.bodies.0 g.blocks map (blocks_of img g x)) _ body in (
          record {
            name = f.name;
            extension = f.extension;
            uic = f.uic;
            protect = f.protect;
            kind = (kind_iff img g x).0 (f.kind, and_right (takes g.bodies.0 g.blocks map (blocks_of img g x)) _ body);
            rest = (rest_iff img g e 11 (omega arith)).0 (and_left (rest_test img g e 11) _ behind);
            bodies = takes_range g.bodies.0 g.blocks map (blocks_of img g x) taken;
            opens = f.opens;
          },
          taken,
        )

    used_of : Used img g e x → takes g.bodies.0 g.blocks map (blocks_of img g x) ≡ true → (fields_test img x && (rest_test img g e 11 && body_test img g map x)) ≡ true
    unfolding body_test
    used_of u taken =
        let tests = (kind_iff img g x).1 u.kind in
        and_both ((fields_iff img x).1 (record { name = u.name; extension = u.extension; uic = u.uic; protect = u.protect; kind = tests.0; opens = u.opens }))
        (and_both ((rest_iff img g e 11 (omega arith)).1 u.rest) (and_both taken tests.1))

  pub entry_right : entry_test img g map e ≡ true → RightEntry img g e × Taken
  unfolding entry_test
  entry_right test =
      elim (ℕ_discrete (entry_of img g e).name1 0) [
        | yes is ↦ of_empty (simp (eq-eqb _ _ is) at test)
        | no other ↦ let h = of_used (entry_of img g e) (simp (ne_eqb _ _ other) at test) in (inr h.0, h.1)
      ]

  pub right_entry : RightEntry img g e → Taken → entry_test img g map e ≡ true
  unfolding entry_test
  right_entry (inl empty) taken = empty_of empty
  right_entry (inr u) taken = simp (ne_eqb _ _ (name_not_zero _ _ u.name)) (used_of (entry_of img g e) u taken)
