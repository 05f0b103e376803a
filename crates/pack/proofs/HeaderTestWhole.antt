-- The test of block 0 says exactly what its rules say; what a short image, and each test of the header in turn, comes to.
use Prim.Native.Nat.{ℕ, ◌+◌, ◌-◌, ◌<◌}
use mathlib.Core.Path.{◌≡◌, refl, sym, ◌∙◌}
use mathlib.Core.Bool.{Bool, true, false}
use mathlib.Core.List.{List}
use mathlib.Core.Logic.{◌↔◌}
use native.Mathlib.Omega.{arith}
use lib.ListN.{length}
use Rattle.answers.proofs.RefusalsTests.{and_left, and_right, and_both, go_on, stop}
use Rattle.words.specs.Word.{word_at}
use Rattle.std.specs.Prelude.{Some, None}
use Rattle.pack.specs.Form.{segments_of, bodies_of}
use Rattle.pack.specs.Geometry.{geometry_of, segment_words}
use Rattle.pack.specs.Header.{uic_count, RightHeader}
use Rattle.pack.specs.HeaderTest.{zeros, distinct, measured, header_test, header_of}
use Rattle.pack.proofs.FormBounds.{uics_fit}
use Rattle.pack.proofs.HeaderTestWords.{zeros_at, zeros_all, distinct_is, is_distinct}
use Rattle.pack.proofs.HeaderTestMeasures.{measured_is, is_measured}
use Rattle.pack.proofs.HeaderRules.{header_long}

-- The test of block 0 says exactly what its rules say.
pub header_is : (img : List ℕ) → header_test img ≡ true → RightHeader img
unfolding header_test geometry_of
header_is img t =
    let m = measured_is _ _ _ _ _ (and_left (measured (length img) (word_at img 0) (word_at img 1) (word_at img 2) (uic_count img)) _ t) in
    let behind = and_right (measured (length img) (word_at img 0) (word_at img 1) (word_at img 2) (uic_count img)) _ t in
    let d = distinct_is img 4 (uic_count img) (and_left (distinct img 4 (uic_count img)) _ behind) in
    let z = and_right (distinct img 4 (uic_count img)) _ behind in
    let fit = uics_fit (word_at img 0) (uic_count img) m.known m.uics_most in
    record {
      measured = m;
      uics = d;
      rest = λ w low high. zeros_at img (4 + uic_count img) (segment_words (segments_of (word_at img 0)) - (4 + uic_count img)) w z low (omega (arith, fit));
    }

pub is_header : (img : List ℕ) → RightHeader img → header_test img ≡ true
unfolding header_test geometry_of
is_header img h =
    let fit = uics_fit (word_at img 0) (uic_count img) h.measured.known h.measured.uics_most in
    and_both (is_measured _ _ _ _ _ h.measured)
    (and_both (is_distinct img 4 (uic_count img) h.uics)
    (zeros_all img (4 + uic_count img) (segment_words (segments_of (word_at img 0)) - (4 + uic_count img)) (λ w low high. h.rest w low (omega (arith, fit)))))

pub header_iff : (img : List ℕ) → header_test img ≡ true ↔ RightHeader img
header_iff img = (header_is img, is_header img)

module _ (img : List ℕ) where
  pub header_wrong : header_test img ≡ false → None ≡ header_of img
  unfolding header_of
  header_wrong h = rw h

  pub header_short : length img < 8 → None ≡ header_of img
  header_short short = header_wrong (not_right (header_test img) refl)
    where
      not_right : (b : Bool) → header_test img ≡ b → header_test img ≡ false
      not_right false h = h
      not_right true h = absurd (omega (arith, header_long img (header_is img h)))

  module _ (form blocks contents uics : ℕ) (is₀ : form ≡ word_at img 0) (is₁ : blocks ≡ word_at img 1) (is₂ : contents ≡ word_at img 2) (is₃ : uics ≡ word_at img 3) where
    at_words : measured (length img) form blocks contents uics ≡ measured (length img) (word_at img 0) (word_at img 1) (word_at img 2) (uic_count img)
    at_words = rw (is₀, is₁, is₂, is₃)

    pub not_measured : measured (length img) form blocks contents uics ≡ false → None ≡ header_of img
    unfolding header_test
    not_measured h = header_wrong (sym (stop _ _ (sym at_words ∙ h)))

    module _ (m : measured (length img) form blocks contents uics ≡ true) where
      pub not_distinct : distinct img 4 uics ≡ false → None ≡ header_of img
      unfolding header_test
      not_distinct h = header_wrong (sym (go_on (sym at_words ∙ m) (stop _ _ (rw is₃ at h))))

      module _ (d : distinct img 4 uics ≡ true) (segments words : ℕ) (is : segments ≡ segments_of form) (size : words ≡ segment_words segments) where
        pub not_zeros : zeros img (4 + uics) (words - (4 + uics)) ≡ false → None ≡ header_of img
        unfolding header_test geometry_of
        not_zeros h = header_wrong (sym (go_on (sym at_words ∙ m) (go_on (rw is₃ at d) (sym (rw (size, is, is₀, is₃) at h)))))

        pub all_right : zeros img (4 + uics) (words - (4 + uics)) ≡ true → (bodies : ℕ) → bodies ≡ bodies_of form contents
            → Some (record { segments = record { 0 = segments }; blocks = blocks; contents = contents; bodies = record { 0 = bodies } }) ≡ header_of img
        unfolding header_test geometry_of header_of
        all_right h bodies e =
            rw (and_both (sym at_words ∙ m) (and_both (rw is₃ at d) (rw (size, is, is₀, is₃) at h)))
            (rw (is, e, is₀, is₁, is₂))
