-- The stages of the call: what each test of the code shows, and the answer that follows.
use Prim.Native.Nat.{ℕ, ◌+◌, ◌*◌, ◌≤◌, ◌<◌}
use mathlib.Core.Path.{◌≡◌, sym, ap, ◌∙◌}
use mathlib.Core.Bool.{Bool, true, false}
use mathlib.Core.List.{List}
use native.Mathlib.Omega.{arith}
use native.Mathlib.Nat.{mul-le-mul_right}
use lib.ListN.{length}
use Rattle.answers.proofs.RefusalsTests.{true_not_false}
use Rattle.words.specs.Word.{word_at}
use Rattle.pack.specs.declared.Geometry.{Geometry}
use Rattle.pack.specs.Geometry.{geometry_of, block_bytes, segment_bytes}
use Rattle.pack.specs.Form.{segments_of}
use Rattle.pack.specs.Header.{Measured}
use Rattle.pack.specs.HeaderTest.{measured}
use Rattle.pack.specs.GeometrySized.{Sized}
use Rattle.pack.proofs.HeaderTestMeasures.{measured_is, is_measured}
use Rattle.consistency.specs.ConsistentTest.{Opened}
use Rattle.std.specs.Prelude.{Some, None}
use Rattle.consistency.specs.ConsistentTest.{consistent, opened_of}
use Rattle.consistency.proofs.ConsistentTestIff.{consistent_iff, opened_good, opened_bad}
use Rattle.moving.specs.declared.Way.{Way}
use Rattle.moving.specs.Ways.{from_form, to_form, moved}
use Rattle.moving.specs.Moved.{moved_measures, Moves}
use Rattle.moving.specs.Moving.{RightSource, Movable, RightTarget, Moving}
use Rattle.moving.specs.Moving.Moving.{other_source, other_target, moves}
use Rattle.moving.specs.MovedParts.{Source}
use Rattle.moving.proofs.MovedMeasures.{same_segments, stated_segments_law, stated_blocks, stated_contents, measures_there}

-- what is known of a source that was opened
module _ (src : List ℕ) {opened : Opened} (is : opened ≡ opened_of src) {g : Geometry} (good : opened ≡ Some g) where
  pub good_sized : Sized src g
  good_sized = (opened_good src g (sym is ∙ good)).2

  pub good_test : consistent src ≡ true
  good_test = (consistent_iff src).1 (opened_good src g (sym is ∙ good)).0

  pub header_read : 2 * 0 + 1 < length src
  header_read =
      let some : 1 ≤ g.blocks = omega (arith, good_sized.bodies) in
      omega (arith, good_sized.long, good_sized.some, mul-le-mul_right (block_bytes g) some)

  pub numbers_small : (0 < g.blocks) × (g.blocks < 65536) × (0 < g.bodies.0) × (g.bodies.0 < 65536)
  numbers_small =
      let sized = good_sized in
      (omega (arith, sized.bodies), omega (arith, sized.most), omega (arith, sized.contents), omega (arith, sized.bodies, sized.most))

module _ (way : Way) (src target : List ℕ) {opened : Opened} (is : opened ≡ opened_of src) where
  -- "40, source not consistent"
  pub refused_bad : opened ≡ None → Moving way src target 0o40 target
  refused_bad bad = other_source (λ right. true_not_false (sym ((consistent_iff src).1 right.consistent) ∙ opened_bad src (sym is ∙ bad)))

  module _ {g : Geometry} (good : opened ≡ Some g) where
    stated : g ≡ geometry_of src
    stated = sym (opened_good src g (sym is ∙ good)).1

    module _ {form from : ℕ} (read : form ≡ word_at src 0) (asked : from ≡ from_form way) where
      -- "or not of that form"
      pub refused_form : (form ≡ from → ⊥) → Moving way src target 0o40 target
      refused_form other = other_source (λ right. other (read ∙ right.form ∙ sym asked))

      module _ (same : form ≡ from) {h : Geometry} {to : ℕ} (there : h ≡ moved_measures way g) (other : to ≡ to_form way) where
        right_source : RightSource way src
        right_source = record { consistent = (opened_good src g (sym is ∙ good)).0; form = sym read ∙ same ∙ asked }

        blocks_here : g.blocks ≡ word_at src 1
        blocks_here = ap (λ (z : Geometry). z.blocks) stated ∙ stated_blocks src

        contents_here : g.contents ≡ word_at src 2
        contents_here = ap (λ (z : Geometry). z.contents) stated ∙ stated_contents src

        segments_here : segments_of (to_form way) ≡ g.segments.0
        segments_here =
            same_segments way ∙ (ap segments_of (sym right_source.form) ∙ (sym (stated_segments_law src) ∙ sym (ap (λ (z : Geometry). z.segments.0) stated)))

        test_there : (long : ℕ) → measured long to h.blocks h.contents 0 ≡ measured long (to_form way) (moved way g.blocks) (word_at src 2) 0
        test_there long =
            ap (λ (z : Geometry). measured long to z.blocks z.contents 0) there
            ∙ (ap (λ (f : ℕ). measured long f (moved way g.blocks) g.contents 0) other
            ∙ ap (λ (c : ℕ). measured long (to_form way) (moved way g.blocks) c 0) contents_here)

        -- "41, target of the wrong size, or ..": it measures as a pack of the other form exactly if nothing is wrong
        pub refused_target : {test : Bool} → test ≡ measured (length target) to h.blocks h.contents 0 → test ≡ false → Moving way src target 0o41 target
        refused_target judged wrong = other_target right_source fits
          where
            fits : RightTarget way src (length target) → ⊥
            fits right =
                let size = right.size ∙ (ap (λ (n : ℕ). moved way n * block_bytes (geometry_of src)) (sym blocks_here) ∙ ap
                (λ (z : Geometry). moved way g.blocks * block_bytes z) (sym stated)) in
                true_not_false
                (sym (is_measured (length target) (to_form way) (moved way g.blocks) (word_at src 2) 0 (measures_there stated right.movable size (omega arith)))
                ∙ (sym (test_there (length target)) ∙ (sym judged ∙ wrong)))

        module _ {test : Bool} (judged : test ≡ measured (length target) to h.blocks h.contents 0) (fine : test ≡ true) where
          measures : Measured (length target) (to_form way) (moved way g.blocks) (word_at src 2) 0
          measures = measured_is (length target) (to_form way) (moved way g.blocks) (word_at src 2) 0 (sym (test_there (length target)) ∙ (sym judged ∙ fine))

          movable : Movable way src
          movable =
              record {
                source = right_source;
                blocks_least = omega (arith, measures.blocks_least, ap (moved way) blocks_here);
                blocks_most = omega (arith, measures.blocks_most, ap (moved way) blocks_here);
                contents_most = measures.contents_most;
              }

          pub source_moves : Source way src g
          source_moves = record { stated = stated; movable = movable }

          pub target_long : length target ≡ h.blocks * block_bytes g
          target_long =
              measures.size
              ∙ (ap (λ (s : ℕ). moved way g.blocks * segment_bytes s) segments_here ∙ ap (λ (z : Geometry). z.blocks * block_bytes g) (sym there))

          pub target_moved : {dst : List ℕ} → Moves way src dst → Moving way src target 0 dst
          target_moved m =
              moves
              (record {
                size =
                    measures.size
                    ∙ (ap (λ (s : ℕ). moved way g.blocks * segment_bytes s) segments_here
                    ∙ (ap (λ (n : ℕ). moved way n * block_bytes g) blocks_here ∙ ap (λ (z : Geometry). moved way (word_at src 1) * block_bytes z) stated));
                movable = movable;
              })
              m
