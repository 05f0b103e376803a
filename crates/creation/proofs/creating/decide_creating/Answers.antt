-- Rests on `CreatingStage`: a law for each row, given what the rows before it showed; a pack that was opened is consistent.
use mathlib.Core.Path.{sym, ap, ◌∙◌}
use Rattle.answers.specs.Refusals.{code_of}
use Rattle.answers.specs.Missing.{value_in}
use Rattle.consistency.proofs.ConsistentTestIff.{opened_good, opened_bad}
use Rattle.frame.proofs.FramedStays.{entries_at}
use Rattle.creation.proofs.CreatingStage.{missing_tested, creating_40, creating_15, creating_41, creating_13, creating_2, creating_6, creating_12, creating_at}
use Rattle.creation.proofs.creating.decide_creating.Goals as goal

pub returns-in_default : goal.returns-in_default
unfolding code_of
returns-in_default c = creating_40 _ _ _ _ _ (opened_bad _ (sym c.requires ∙ c.in_default.is))

pub returns-then-not-is_legal : goal.returns-then-not-is_legal
unfolding code_of
returns-then-not-is_legal c = creating_15 _ _ _ _ _ (sym c.requires ∙ c.in-Some.is)
    (sym c.is_legal.ensures ∙ c.if-not-is_legal.true)

pub returns-then-wrong : goal.returns-then-wrong
unfolding code_of
returns-then-wrong c = creating_41 _ _ _ _ _ (sym c.requires ∙ c.in-Some.is) (sym c.is_legal.ensures ∙ c.if-not-is_legal.false) c.then-wrong.either

pub is_listed-requires : goal.is_listed-requires
is_listed-requires c = (opened_good _ _ (sym c.requires ∙ c.in-Some.is)).0.header

pub returns-then-not-is_listed : goal.returns-then-not-is_listed
unfolding code_of
returns-then-not-is_listed c = creating_13 _ _ _ _ _ (sym c.requires ∙ c.in-Some.is) (sym c.is_legal.ensures ∙ c.if-not-is_legal.false)
    c.if-wrong.false c.if-protect-gt255.false (sym c.is_listed.ensures ∙ c.if-not-is_listed.true)

pub invariant_of-view : goal.invariant_of-view
invariant_of-view c = record { sized = (opened_good _ _ (sym c.requires ∙ c.in-Some.is)).2 }

pub returns-then-is_some : goal.returns-then-is_some
unfolding code_of
returns-then-is_some c = creating_2 _ _ _ _ _ (sym c.requires ∙ c.in-Some.is) (sym c.is_legal.ensures ∙ c.if-not-is_legal.false)
    c.if-wrong.false c.if-protect-gt255.false (sym c.is_listed.ensures ∙ c.if-not-is_listed.false)
    (missing_tested _ c.find.ensures (sym c.if-is_some.true ∙ c.is_some.ensures))

pub returns-then-key-caller : goal.returns-then-key-caller
unfolding code_of
returns-then-key-caller c = creating_6 _ _ _ _ _ (sym c.requires ∙ c.in-Some.is) (sym c.is_legal.ensures ∙ c.if-not-is_legal.false)
    c.if-wrong.false c.if-protect-gt255.false (sym c.is_listed.ensures ∙ c.if-not-is_listed.false)
    (missing_tested _ c.find.ensures (sym c.if-is_some.false ∙ c.is_some.ensures)) c.if-key-caller.true

pub lowest_empty-requires : goal.lowest_empty-requires
lowest_empty-requires c = let opened = opened_good _ _ (sym c.requires ∙ c.in-Some.is) in
    record { by_index = entries_at _ _ (sym opened.1) opened.0 }

pub returns-in_default-lowest_empty : goal.returns-in_default-lowest_empty
unfolding code_of
returns-in_default-lowest_empty c = creating_12 _ _ _ _ _ (sym c.requires ∙ c.in-Some.is) (sym c.is_legal.ensures ∙ c.if-not-is_legal.false)
    c.if-wrong.false c.if-protect-gt255.false (sym c.is_listed.ensures ∙ c.if-not-is_listed.false)
    (missing_tested _ c.find.ensures (sym c.if-is_some.false ∙ c.is_some.ensures)) c.if-key-caller.false
    c.lowest_empty.ensures (ap value_in c.in_default-lowest_empty.is)

pub returns : goal.returns
returns c = creating_at _ _ _ _ _ (sym c.requires ∙ c.in-Some.is) (sym c.is_legal.ensures ∙ c.if-not-is_legal.false)
    c.if-wrong.false c.if-protect-gt255.false (sym c.is_listed.ensures ∙ c.if-not-is_listed.false)
    (missing_tested _ c.find.ensures (sym c.if-is_some.false ∙ c.is_some.ensures)) c.if-key-caller.false
    c.lowest_empty.ensures (ap value_in c.in-Some-lowest_empty.is)
