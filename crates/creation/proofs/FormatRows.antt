-- What Format comes to: its test says exactly what its rule says, and a request is refused with 41 and nothing changed, or done.
use Prim.Native.Nat.{ℕ, ◌%◌}
use mathlib.Core.Path.{◌≡◌, refl, sym, ap, ◌∙◌}
use mathlib.Core.Bool.{Bool, true, false, not}
use mathlib.Core.List.{List, [], ◌++◌}
use mathlib.Core.Logic.{◌↔◌}
use native.Mathlib.Omega.{arith}
use lib.Dec.{eqb}
use lib.ListN.{length, drop, replicate}
use borrow.Author.Tests.{eq-eqb, ne_eqb, eqb-true}
use Rattle.answers.specs.Refusals.{table_order, in_order}
use Rattle.answers.proofs.Refusals.{refuse, pass, clear}
use Rattle.pack.specs.Form.{bodies_of}
use Rattle.pack.specs.HeaderTest.{measured, distinct}
use Rattle.pack.specs.Map.{bits_set}
use Rattle.answers.proofs.RefusalsTests.{and_left, and_right, and_both, go_on, stop}
use Rattle.pack.proofs.HeaderTestMeasures.{measured_is, is_measured}
use Rattle.pack.proofs.HeaderTestWords.{distinct_is, is_distinct}
use Rattle.room.specs.Room.{run_from}
use Rattle.asking.specs.Outcome.{Outcome, Unchanged}
use Rattle.asking.proofs.Outcome.{settled_refused, settled_success, refusal_keeps}
use Rattle.creation.specs.FormatRows.{format_test, format_rows}
use Rattle.creation.specs.Formattable.{uics_in, Formattable}
use Rattle.creation.specs.Format.{system_bytes, measures_of, formatted, format}
use Rattle.creation.specs.FormatSteps.{headed}
use Rattle.creation.proofs.FormatMeasures.{header_inside}
use Rattle.creation.proofs.FormatSteps.{blank_is}

-- each answer of the test, rung by rung
module _ (long form blocks contents : ℕ) (uics : List ℕ) where
  pub half_word : (length uics % 2 ≡ 0 → ⊥) → false ≡ format_test long form blocks contents uics
  unfolding format_test
  half_word odd = stop _ _ (ne_eqb _ 0 odd)

  module _ (whole : length uics % 2 ≡ 0) where
    pub not_measured : measured long form blocks contents (uics_in uics) ≡ false → false ≡ format_test long form blocks contents uics
    unfolding format_test
    not_measured fails = go_on (eq-eqb _ 0 whole) (stop _ _ fails)

    pub by_uics : measured long form blocks contents (uics_in uics) ≡ true → {answer : Bool} → answer ≡ distinct uics 0 (uics_in uics)
        → answer ≡ format_test long form blocks contents uics
    unfolding format_test
    by_uics holds is = go_on (eq-eqb _ 0 whole) (go_on holds is)

  -- the test says exactly what the rule says
  pub test_formattable : format_test long form blocks contents uics ≡ true → Formattable long form blocks contents uics
  unfolding format_test
  test_formattable t =
      let behind = and_right (eqb (length uics % 2) 0) _ t in
      record {
        whole = eqb-true _ 0 (and_left (eqb (length uics % 2) 0) _ t);
        measured = measured_is long form blocks contents (uics_in uics) (and_left (measured long form blocks contents (uics_in uics)) _ behind);
        distinct = distinct_is uics 0 (uics_in uics) (and_right (measured long form blocks contents (uics_in uics)) _ behind);
      }

  pub formattable_test : Formattable long form blocks contents uics → format_test long form blocks contents uics ≡ true
  unfolding format_test
  formattable_test f =
      and_both (eq-eqb _ 0 f.whole)
      (and_both (is_measured long form blocks contents (uics_in uics) f.measured) (is_distinct uics 0 (uics_in uics) f.distinct))

  pub format_iff : format_test long form blocks contents uics ≡ true ↔ Formattable long form blocks contents uics
  format_iff = (test_formattable, formattable_test)

-- the two outcomes
module _ (image : List ℕ) (form blocks contents : ℕ) (uics : List ℕ) where
  pub format_refused : format_test (length image) form blocks contents uics ≡ false
      → format image form blocks contents uics ≡ record { code = 0o41; numbers = []; image = image; buffer = uics }
  unfolding format format_rows
  format_refused fails = settled_refused _ _ _ _ (refuse [] (ap not fails)) (λ is. omega arith)

  pub format_done : format_test (length image) form blocks contents uics ≡ true
      → format image form blocks contents uics ≡ record { code = 0; numbers = []; image = formatted image form blocks contents uics; buffer = uics }
  unfolding format format_rows
  format_done holds = settled_success _ _ _ _ (pass 0o41 [] (ap not holds) ∙ clear)

  -- "Of several, the first in this table is given."
  pub format_ordered : in_order table_order 0 (format_rows image form blocks contents uics) ≡ true
  unfolding format_rows
  format_ordered = refl

  -- "nothing in the image or a lent buffer changes"
  pub format_unchanged : ((format image form blocks contents uics).code ≡ 0 → ⊥) → Unchanged (format image form blocks contents uics) [] image uics
  unfolding format
  format_unchanged = refusal_keeps (format_rows image form blocks contents uics) image uics _

  -- the code and the image of each, as the code comes to them
  pub refused_code : format_test (length image) form blocks contents uics ≡ false → 0o41 ≡ (format image form blocks contents uics).code
  refused_code fails = sym (ap (λ (o : Outcome). o.code) (format_refused fails))

  pub refused_image : format_test (length image) form blocks contents uics ≡ false → image ≡ (format image form blocks contents uics).image
  refused_image fails = sym (ap (λ (o : Outcome). o.image) (format_refused fails))

  module _ (holds : format_test (length image) form blocks contents uics ≡ true) where
    pub done_code : 0 ≡ (format image form blocks contents uics).code
    done_code = sym (ap (λ (o : Outcome). o.code) (format_done holds))

    pub done_image : {cleared left : List ℕ} → cleared ≡ replicate (system_bytes form contents) 0 ++ drop (system_bytes form contents) image
        → left ≡ headed cleared form blocks contents uics → {marked : List ℕ}
        → marked ≡ bits_set left (measures_of form blocks contents) (run_from 0 (bodies_of form contents)) 1 → marked ≡ (format image form blocks contents uics).image
    unfolding formatted
    done_image {cleared} {left} clears heads marks =
        marks
        ∙ ap (λ (l : List ℕ). bits_set l (measures_of form blocks contents) (run_from 0 (bodies_of form contents)) 1)
        (heads
        ∙ ap (λ (l : List ℕ). headed l form blocks contents uics) clears
        ∙ blank_is image form blocks contents uics (header_inside (test_formattable (length image) form blocks contents uics holds)))
        ∙ sym (ap (λ (o : Outcome). o.image) (format_done holds))
