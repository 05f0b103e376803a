-- Rests on `HeaderTestWhole`: what each test of the header comes to; `HeaderTestMeasures`: right measures leave room for the list and for block 0.
use mathlib.Core.Path.{sym, ◌∙◌}
use native.Mathlib.Omega.{arith}
use Rattle.pack.proofs.HeaderTestWhole.{header_short, not_measured, not_distinct, not_zeros, all_right}
use Rattle.pack.proofs.HeaderTestMeasures.{measured_roomy}
use Rattle.pack.proofs.headers.read_header.Goals as goal

pub returns-then-img-lt8 : goal.returns-then-img-lt8
returns-then-img-lt8 c = header_short _ c.if-img-lt8.true

pub returns-then-not-is_measured : goal.returns-then-not-is_measured
returns-then-not-is_measured c = not_measured _ _ _ _ _ c.word_at-form.ensures.value c.word_at-blocks.ensures.value
    c.word_at-contents.ensures.value c.word_at-uics.ensures.value (sym c.is_measured.ensures ∙ c.if-not-is_measured.true)

pub is_distinct-requires : goal.is_distinct-requires
is_distinct-requires c = let m = measured_roomy _ _ _ _ _ (sym c.is_measured.ensures ∙ c.if-not-is_measured.false) in
    omega (arith, m.list, m.block)

pub returns-then-not-is_distinct : goal.returns-then-not-is_distinct
returns-then-not-is_distinct c = not_distinct _ _ _ _ _ c.word_at-form.ensures.value
    c.word_at-blocks.ensures.value c.word_at-contents.ensures.value
    c.word_at-uics.ensures.value (sym c.is_measured.ensures ∙ c.if-not-is_measured.false)
    (sym c.is_distinct.ensures ∙ c.if-not-is_distinct.true)

pub words-requires : goal.words-requires
words-requires c = let m = measured_roomy _ _ _ _ _ (sym c.is_measured.ensures ∙ c.if-not-is_measured.false) in
    omega (arith, m.few, c.segments_of-segments.ensures)

pub overflow_sub-words : goal.overflow_sub-words
overflow_sub-words c = let m = measured_roomy _ _ _ _ _ (sym c.is_measured.ensures ∙ c.if-not-is_measured.false) in
    omega (arith, m.list, c.segments_of-segments.ensures, c.words.ensures)

pub is_stretch_zero-requires : goal.is_stretch_zero-requires
is_stretch_zero-requires c = let m = measured_roomy _ _ _ _ _ (sym c.is_measured.ensures ∙ c.if-not-is_measured.false) in
    omega (arith, m.list, m.block, c.segments_of-segments.ensures, c.words.ensures)

pub returns-then-not-is_stretch_zero : goal.returns-then-not-is_stretch_zero
returns-then-not-is_stretch_zero c = not_zeros _ _ _ _ _ c.word_at-form.ensures.value
    c.word_at-blocks.ensures.value
    c.word_at-contents.ensures.value
    c.word_at-uics.ensures.value
    (sym c.is_measured.ensures ∙ c.if-not-is_measured.false)
    (sym c.is_distinct.ensures ∙ c.if-not-is_distinct.false) _ _
    c.segments_of-segments.ensures c.words.ensures (sym c.is_stretch_zero.ensures ∙ c.if-not-is_stretch_zero.true)

pub bodies_of-bodies-requires : goal.bodies_of-bodies-requires
bodies_of-bodies-requires c = (measured_roomy _ _ _ _ _ (sym c.is_measured.ensures ∙ c.if-not-is_measured.false)).bounded

pub returns : goal.returns
returns c = all_right _ _ _ _ _ c.word_at-form.ensures.value
    c.word_at-blocks.ensures.value
    c.word_at-contents.ensures.value
    c.word_at-uics.ensures.value
    (sym c.is_measured.ensures ∙ c.if-not-is_measured.false)
    (sym c.is_distinct.ensures ∙ c.if-not-is_distinct.false) _ _
    c.segments_of-segments.ensures c.words.ensures
    (sym c.is_stretch_zero.ensures ∙ c.if-not-is_stretch_zero.false) _ c.bodies_of-bodies.ensures
