-- The answers of the code that opens a pack: what each has to show, from the tests that led to it.
use Prim.Native.Nat.{ℕ, ◌%◌, ◌≤◌}
use mathlib.Core.Path.{◌≡◌, refl, sym, ap, subst, ◌∙◌}
use mathlib.Core.Bool.{Bool, true, false, cond}
use mathlib.Core.List.{List}
use native.Mathlib.Omega.{arith}
use lib.ListN.{length, get_or}
use Rattle.pack.specs.declared.Geometry.{Geometry}
use Rattle.pack.specs.Geometry.{geometry_of, slots}
use Rattle.pack.specs.GeometrySized.{most_entries, Sized}
use Rattle.pack.specs.Header.{RightHeader}
use Rattle.pack.specs.HeaderTest.{header_test, header_of}
use Rattle.pack.specs.Consistent.{held_in, held}
use Rattle.answers.proofs.RefusalsTests.{and_left, go_on, stop, true_not_false}
use Rattle.pack.proofs.HeaderTestWhole.{header_iff}
use Rattle.pack.proofs.HeaderRules.{header_sized, entries_few}
use Rattle.consistency.specs.ConsistentTest.{Opened}
use Rattle.std.specs.Prelude.{Option, Some, None}
use Rattle.consistency.specs.Walk.{system_set}
use Rattle.consistency.specs.ConsistentTest.{mark_all, system_map, entries_test, files_test, consistent, opened_of}
use Rattle.consistency.specs.Mapped.{Lent, MappedIf}
use Rattle.consistency.proofs.WalkSystem.{system_length}
use Rattle.consistency.proofs.ConsistentTestScan.{marks_length}
use Rattle.consistency.proofs.ConsistentTestIff.{system_long, entries_any, entries_held}

-- an answer that an image is not consistent: of the map it says nothing
abbrev Refused : List ℕ → Type 0 → Type 0
Refused img A = (None ≡ opened_of img) × (consistent img ≡ true → A)

refused : (img : List ℕ) {A : Type 0} → consistent img ≡ false → Refused img A
unfolding opened_of
refused img wrong = (simp wrong, λ right. true_not_false (sym right ∙ wrong))

by_right : (test : Bool) (g h : Geometry) → cond test (Some g) None ≡ Some h → (test ≡ true) × (g ≡ h)
by_right true g h is = (refl, cc)
by_right false g h is = (cc, cc)

by_wrong : (test : Bool) (g : Geometry) → cond test (Some g) None ≡ None → test ≡ false
by_wrong true g is = cc
by_wrong false g is = refl

module _ (img : List ℕ) (r : Option Geometry) (is : r ≡ header_of img) where
  pub open_wrong : {A : Type 0} → r ≡ None → Refused img A
  unfolding header_of consistent
  open_wrong wrong = refused img (sym (stop (header_test img) (files_test img (geometry_of img)) (by_wrong _ _ (sym is ∙ wrong))))

  module _ (g : Geometry) (right : r ≡ Some g) where
    passed : (header_test img ≡ true) × (geometry_of img ≡ g)
    unfolding header_of
    passed = by_right _ _ _ (sym is ∙ right)

    pub open_header : RightHeader img
    open_header = (header_iff img).0 passed.0

    pub open_few : slots g ≤ most_entries
    open_few = subst (λ (h : Geometry). slots h ≤ most_entries) passed.1 (entries_few img open_header)

    pub open_sized : Sized img g
    open_sized = subst (Sized img) passed.1 (header_sized img open_header)

    by_files : consistent img ≡ files_test img g
    unfolding consistent
    by_files = sym (go_on passed.0 refl) ∙ ap (files_test img) passed.1

    open_enough : {lent : List ℕ} → Lent lent img → g.blocks ≤ length lent
    open_enough l = omega (arith, l.enough open_header, ap (λ (h : Geometry). h.blocks) passed.1)

    pub open_room : {lent : List ℕ} → Lent lent img → g.bodies.0 ≤ length lent
    open_room l = omega (arith, open_enough l, open_sized.bodies)

    -- on the map that was lent, with the system's blocks taken
    module _ (lent map : List ℕ) (l : Lent lent img) (is-system : map ≡ system_set lent g.bodies.0 1) where
      is_map : map ≡ system_map (length lent) g
      is_map = is-system ∙ ap (λ (m : List ℕ). system_set m g.bodies.0 1) l.empty

      pub open_map : map ≡ system_map (length map) g
      open_map = is_map ∙ ap (λ (n : ℕ). system_map n g) (sym (ap length is_map ∙ system_long img g open_sized (length lent) (open_enough l)))

      pub open_whole : length map % 16 ≡ 0
      open_whole = omega (arith, l.whole, ap length is_map, system_long img g open_sized (length lent) (open_enough l))

      pub open_long : g.blocks ≤ length map
      open_long = omega (arith, ap length is_map, system_long img g open_sized (length lent) (open_enough l), open_enough l)

      pub open_files : {A : Type 0} → files_test img g ≡ false → Refused img A
      open_files wrong = refused img (by_files ∙ wrong)

      right_entries : files_test img g ≡ true → entries_test (length lent) img g ≡ true
      unfolding files_test
      right_entries test = entries_any img g open_sized (length lent) (open_enough l) ∙ and_left (entries_test g.blocks img g) _ test

      pub open_good : (marks left : List ℕ) → files_test img g ≡ true → marks ≡ mark_all img g map 0 (slots g) → left ≡ system_set marks g.bodies.0 0
          → (Some g ≡ opened_of img) × MappedIf left img
      unfolding opened_of held
      open_good marks left right marked given =
          let good = by_files ∙ right in
          let whole : left ≡ system_set (mark_all img g (system_map (length lent) g) 0 (slots g)) g.bodies.0 0 =
          given ∙ ap (λ (m : List ℕ). system_set m g.bodies.0 0) (marked ∙ ap (λ (m : List ℕ). mark_all img g m 0 (slots g)) is_map) in
          let long : length left ≡ length map =
          ap length given ∙ (system_length marks g.bodies.0 0 ∙ (ap length marked ∙ marks_length img g map 0 (slots g))) in (
            simp (good, passed.1),
            λ test. record {
              enough = omega (arith, open_long, long, ap (λ (h : Geometry). h.blocks) passed.1);
              says = λ b. ap (λ (m : List ℕ). get_or m b 0) whole
                  ∙ (entries_held img g open_sized (length lent) (open_enough l) (right_entries right) b ∙ ap (λ (h : Geometry). held_in img h b) (sym passed.1));
            },
          )

-- whether a pack was opened
pub consistent_good : (img : List ℕ) (r : Opened) (g : Geometry) → r ≡ opened_of img → r ≡ Some g → true ≡ consistent img
unfolding opened_of
consistent_good img r g is good = by (consistent img) (geometry_of img) (sym is ∙ good)
  where
    by : (test : Bool) (h : Geometry) → cond test (Some h) None ≡ Some g → true ≡ test
    by true h e = refl
    by false h e = cc
