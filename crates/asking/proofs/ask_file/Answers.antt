-- Rests on `AskedStage`: the code of each row where those before it passed; `ConsistentTestOpened`: a pack that was opened is consistent.
use mathlib.Core.Path.{sym, ap, ◌∙◌}
use native.Mathlib.Omega.{arith}
use Rattle.answers.specs.Refusals.{code_of}
use Rattle.consistency.proofs.ConsistentTestIff.{opened_good, opened_bad}
use Rattle.consistency.proofs.ConsistentTestOpened.{consistent_good}
use Rattle.answers.specs.Missing.{value_in}
use Rattle.asking.proofs.Keys.{found_keyed}
use Rattle.asking.proofs.AskedStage.{asked_40, asked_15, asked_41, asked_2, asked_file, file_at, found_at}
use Rattle.asking.proofs.ask_file.Goals as goal

pub returns-in_default : goal.returns-in_default
unfolding code_of
returns-in_default c = asked_40 _ _ _ (opened_bad _ (sym c.requires ∙ c.in_default.is))

pub returns-then-not-is_legal : goal.returns-then-not-is_legal
unfolding code_of
returns-then-not-is_legal c = asked_15 _ _ _ (sym (consistent_good _ _ _ c.requires c.in-Some.is))
    (sym c.is_legal.ensures ∙ c.if-not-is_legal.true)

pub returns-then-wrong : goal.returns-then-wrong
unfolding code_of
returns-then-wrong c = asked_41 _ _ _ (sym (consistent_good _ _ _ c.requires c.in-Some.is))
    (sym c.is_legal.ensures ∙ c.if-not-is_legal.false) c.if-wrong.true

pub invariant_of-view : goal.invariant_of-view
invariant_of-view c = record { sized = (opened_good _ _ (sym c.requires ∙ c.in-Some.is)).2 }

pub returns-in_default-find : goal.returns-in_default-find
unfolding code_of
returns-in_default-find c = let o = opened_good _ _ (sym c.requires ∙ c.in-Some.is) in
    asked_2 _ _ _ (sym (consistent_good _ _ _ c.requires c.in-Some.is))
    (sym c.is_legal.ensures ∙ c.if-not-is_legal.false) c.if-wrong.false
    (found_at _ _ _ _ o.1 (sym (ap value_in c.in_default-find.is) ∙ c.find.ensures))

pub read_entry-requires : goal.read_entry-requires
read_entry-requires c = let f = found_keyed _ _ _ _ _ _ (sym c.find.ensures ∙ ap value_in c.in-Some-find.is) in
    omega (arith, f.high)

pub returns : goal.returns
returns c = let o = opened_good _ _ (sym c.requires ∙ c.in-Some.is) in
    let there = found_at _ _ _ _ o.1 (sym (ap value_in c.in-Some-find.is) ∙ c.find.ensures) in
    file_at _ _ _ _ _ _ o.1 c.read_entry.ensures.value
    (asked_file _ _ _ (sym (consistent_good _ _ _ c.requires c.in-Some.is))
    (sym c.is_legal.ensures ∙ c.if-not-is_legal.false) c.if-wrong.false _ there)
