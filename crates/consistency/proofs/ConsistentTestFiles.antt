-- The answers of the code that judges what stands behind the header: the entries, and then the map by the marks that the entries left.
use Prim.Native.Nat.{ℕ, ◌+◌, ◌%◌, ◌≤◌}
use mathlib.Core.Path.{◌≡◌, sym, ap, ◌∙◌}
use mathlib.Core.Bool.{true, false, ◌&&◌}
use mathlib.Core.List.{List}
use native.Mathlib.Omega.{arith}
use native.Mathlib.Decide.{dec_lt}
use lib.ListN.{length, get_or}
use Rattle.answers.proofs.RefusalsTests.{and_left, go_on, stop}
use Rattle.pack.specs.declared.Geometry.{Geometry}
use Rattle.pack.specs.GeometrySized.{Sized}
use Rattle.pack.specs.Geometry.{slots}
use Rattle.pack.specs.Consistent.{held_in}
use Rattle.pack.specs.MapSays.{marking}
use Rattle.pack.proofs.ConsistentHeld.{beyond_free, marking_few}
use Rattle.pack.proofs.MapSays.{marking_system, marking_body}
use Rattle.consistency.specs.DifferTest.{differ_test}
use Rattle.consistency.specs.Walk.{SystemTaken}
use Rattle.consistency.specs.MapTest.{map_test, mark_on, Marks}
use Rattle.consistency.specs.ConsistentTest.{scan_test, mark_all, empty_map, system_map, entries_test, files_test}
use Rattle.consistency.proofs.WalkSystem.{system_taken}
use Rattle.consistency.proofs.ConsistentTestScan.{scan_counts, marks_length}
use Rattle.consistency.proofs.MapTest.{test_same}
use Rattle.consistency.proofs.ConsistentTestIff.{empty_long, system_one, system_zero, entries_iff, entries_any}

module _ {img : List ℕ} {g : Geometry} (sized : Sized img g) {map : List ℕ} (system : map ≡ system_map (length map) g) (enough : g.blocks ≤ length map) where
  pub files_system : SystemTaken map g
  files_system = system_taken (empty_map (length map)) g (omega (arith, empty_long (length map), enough, sized.bodies)) map system

  entries_here : (scan_test img g map 0 (slots g) && differ_test img g 0 (slots g)) ≡ entries_test g.blocks img g
  unfolding entries_test
  entries_here =
      ap (λ (m : List ℕ). scan_test img g m 0 (slots g) && differ_test img g 0 (slots g)) system ∙ entries_any img g sized (length map) enough

  pub files_wrong : (scan_test img g map 0 (slots g) && differ_test img g 0 (slots g)) ≡ false → false ≡ files_test img g
  unfolding files_test
  files_wrong wrong = stop (entries_test g.blocks img g) (map_test img g (marking img g)) (sym entries_here ∙ wrong)

  module _ (fine : (scan_test img g map 0 (slots g) && differ_test img g 0 (slots g)) ≡ true) {marks : List ℕ} (marked : marks ≡ mark_all img g map 0 (slots g)) where
    right : entries_test g.blocks img g ≡ true
    right = sym entries_here ∙ fine

    -- the marks are the system's blocks and those that are held
    marks_are : (b : ℕ) → mark_on marks b ≡ marking img g b
    unfolding mark_on
    marks_are b =
        let counts : get_or marks b 0 ≡ get_or map b 0 + held_in img g b =
        ap (λ (m : List ℕ). get_or m b 0) marked ∙ scan_counts img g map 0 (slots g) enough (and_left (scan_test img g map 0 (slots g)) _ fine) b in
        let at = ap (λ (m : List ℕ). get_or m b 0) system in
        elim (dec_lt b g.bodies.0) [
          | yes own ↦ omega (arith, counts, at, system_one img g sized (length map) enough b own, marking_system img g b own)
          | no other ↦
              let from : g.bodies.0 ≤ b = omega (arith, other) in
              omega (arith, counts, at, system_zero img g sized (length map) enough b from, marking_body img g b from)
        ]

    pub files_marks : length map % 16 ≡ 0 → Marks marks g.blocks
    files_marks whole =
        let rules = (entries_iff img g sized g.blocks (omega arith)).0 right in
        let long : length marks ≡ length map = ap length marked ∙ marks_length img g map 0 (slots g) in
        record {
          few = λ b. omega (arith, marks_are b, marking_few img g rules.entries rules.once b);
          beyond = λ b past.
              omega (arith, marks_are b, marking_body img g b (omega (arith, past, sized.bodies)), beyond_free img g rules.entries b past);
          whole = omega (arith, long, whole);
          enough = omega (arith, long, enough);
        }

    pub files_by_map : map_test img g (mark_on marks) ≡ files_test img g
    unfolding files_test
    files_by_map = go_on right (test_same img g (mark_on marks) (marking img g) marks_are)
