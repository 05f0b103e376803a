-- The test of the measures says exactly what their rules say, rung by rung, and gives room to whoever reads on in block 0.
use Prim.Native.Nat.{ℕ, ◌+◌, ◌*◌, ◌≤◌, ◌<◌}
use mathlib.Core.Path.{◌≡◌}
use mathlib.Core.Bool.{Bool, true, false, ◌&&◌}
use native.Mathlib.Omega.{arith}
use native.Mathlib.Nat.{mul-le-mul_right}
use lib.Dec.{eqb, leb, ltb}
use borrow.Author.Tests.{eq-eqb, eqb-true, leb-true, le-leb, lt-leb, ltb-true, lt-ltb, le-ltb}
use Rattle.answers.proofs.RefusalsTests.{and_left, and_right, and_both, go_on, stop}
use Rattle.pack.specs.GeometrySized.{most_segments}
use Rattle.pack.specs.Form.{segments_of, least_blocks, most_blocks_of, least_contents, most_contents_of, most_uics_of, bodies_of}
use Rattle.pack.specs.Geometry.{segment_words, segment_bytes}
use Rattle.pack.specs.Header.{Measured}
use Rattle.pack.specs.HeaderTest.{measured}
use Rattle.pack.proofs.FormBounds.{segments_few, uics_fit}

pub measured_is : (long form blocks contents uics : ℕ) → measured long form blocks contents uics ≡ true → Measured long form blocks contents uics
unfolding measured
measured_is long form blocks contents uics t =
    let a = and_right (ltb 0 (segments_of form)) _ t in
    let b = and_right (leb least_blocks blocks) _ a in
    let c = and_right (leb blocks (most_blocks_of form)) _ b in
    let d = and_right (leb least_contents contents) _ c in
    let e = and_right (leb contents (most_contents_of form)) _ d in
    let f = and_right (ltb (bodies_of form contents) blocks) _ e in
    record {
      known = ltb-true _ _ (and_left (ltb 0 (segments_of form)) _ t);
      blocks_least = leb-true _ _ (and_left (leb least_blocks blocks) _ a);
      blocks_most = leb-true _ _ (and_left (leb blocks (most_blocks_of form)) _ b);
      contents_least = leb-true _ _ (and_left (leb least_contents contents) _ c);
      contents_most = leb-true _ _ (and_left (leb contents (most_contents_of form)) _ d);
      room = ltb-true _ _ (and_left (ltb (bodies_of form contents) blocks) _ e);
      uics_most = leb-true _ _ (and_left (leb uics (most_uics_of form)) _ f);
      size = eqb-true _ _ (and_right (leb uics (most_uics_of form)) _ f);
    }

pub is_measured : (long form blocks contents uics : ℕ) → Measured long form blocks contents uics → measured long form blocks contents uics ≡ true
unfolding measured
is_measured long form blocks contents uics m =
    and_both (lt-ltb _ _ m.known) (and_both (le-leb _ _ m.blocks_least) (and_both (le-leb _ _ m.blocks_most) (and_both (le-leb _ _ m.contents_least)
    (and_both (le-leb _ _ m.contents_most) (and_both (lt-ltb _ _ m.room) (and_both (le-leb _ _ m.uics_most) (eq-eqb _ _ m.size)))))))

-- what the measures give to whoever reads on in block 0
pub record Roomy (long form contents uics : ℕ) : Type 0 where
  pub list : 4 + uics ≤ segment_words (segments_of form)
  pub block : 2 * segment_words (segments_of form) ≤ long
  pub bounded : contents ≤ most_contents_of form
  pub few : segments_of form ≤ most_segments

pub measured_roomy : (long form blocks contents uics : ℕ) → measured long form blocks contents uics ≡ true → Roomy long form contents uics
measured_roomy long form blocks contents uics t =
    let m = measured_is long form blocks contents uics t in
    record {
      list = uics_fit form uics m.known m.uics_most;
      block = omega (arith, m.size, mul-le-mul_right (segments_of form) m.blocks_least);
      bounded = m.contents_most;
      few = segments_few form;
    }

-- each answer of the test, rung by rung, from the numbers of the form as they were read
module _ (long form blocks contents uics : ℕ) {segments : ℕ} (s : segments ≡ segments_of form) where
  abbrev Says : Bool → Type 0
  Says answer = answer ≡ measured long form blocks contents uics

  pub not_known : segments < 1 → Says false
  unfolding measured
  not_known h = stop _ _ (le-ltb 0 (segments_of form) (omega (arith, s)))

  module _ (some : 1 ≤ segments) where
    known : ltb 0 (segments_of form) ≡ true
    known = lt-ltb 0 (segments_of form) (omega (arith, s))

    pub too_few : blocks < least_blocks → Says false
    unfolding measured
    too_few h = go_on known (stop _ _ (lt-leb _ _ h))

    module _ (least : least_blocks ≤ blocks) {most_blocks : ℕ} (m : most_blocks ≡ most_blocks_of form) where
      -- the rest behind the least of the blocks decides
      enough : {rest answer : Bool} → answer ≡ rest → answer ≡ (ltb 0 (segments_of form) && (leb least_blocks blocks && rest))
      enough is = go_on known (go_on (le-leb _ _ least) is)

      pub too_many : most_blocks < blocks → Says false
      unfolding measured
      too_many h = enough (stop _ _ (lt-leb blocks (most_blocks_of form) (omega (arith, m))))

      module _ (most : blocks ≤ most_blocks) where
        few_blocks_law : leb blocks (most_blocks_of form) ≡ true
        few_blocks_law = le-leb blocks (most_blocks_of form) (omega (arith, m))

        pub no_contents : contents < 1 → Says false
        unfolding measured
        no_contents h = enough (go_on few_blocks_law (stop _ _ (lt-leb _ _ h)))

        module _ (first : 1 ≤ contents) {most_contents : ℕ} (n : most_contents ≡ most_contents_of form) where
          pub much_contents : most_contents < contents → Says false
          unfolding measured
          much_contents h = enough (go_on few_blocks_law (go_on (le-leb _ _ first) (stop _ _ (lt-leb contents (most_contents_of form) (omega (arith, n))))))

          module _ (few : contents ≤ most_contents) {bodies : ℕ} (b : bodies ≡ bodies_of form contents) where
            -- the rest behind the most of the contents decides
            contained : {rest answer : Bool} → answer ≡ rest → answer
                ≡ (ltb 0 (segments_of form)
                && (leb least_blocks blocks
                && (leb blocks (most_blocks_of form) && (leb least_contents contents && (leb contents (most_contents_of form) && rest)))))
            contained is = enough (go_on few_blocks_law (go_on (le-leb _ _ first) (go_on (le-leb contents (most_contents_of form) (omega (arith, n))) is)))

            pub no_room : blocks ≤ bodies → Says false
            unfolding measured
            no_room h = contained (stop _ _ (le-ltb (bodies_of form contents) blocks (omega (arith, b))))

            module _ (room : bodies < blocks) {mostUics : ℕ} (u : mostUics ≡ most_uics_of form) where
              roomy : ltb (bodies_of form contents) blocks ≡ true
              roomy = lt-ltb (bodies_of form contents) blocks (omega (arith, b))

              pub many_uics : mostUics < uics → Says false
              unfolding measured
              many_uics h = contained (go_on roomy (stop _ _ (lt-leb uics (most_uics_of form) (omega (arith, u)))))

              pub by_size : uics ≤ mostUics → (bytes : ℕ) → bytes ≡ segment_bytes segments → Says (eqb long (blocks * bytes))
              unfolding measured
              by_size h bytes is =
                  let size : bytes ≡ segment_bytes (segments_of form) = omega (arith, s) in
                  contained (go_on roomy (go_on (le-leb uics (most_uics_of form) (omega (arith, u))) (rw size)))
