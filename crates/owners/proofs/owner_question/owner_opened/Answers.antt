-- Rests on `OwnerQuestionStage`: a law for each refusal and for the owner; `opened_good`: what `owner_of` asks for.
use mathlib.Core.Path.{sym, ◌∙◌}
use Rattle.consistency.proofs.ConsistentTestIff.{opened_good}
use Rattle.owners.proofs.OwnerQuestionStage.{owner_40, owner_44, owner_answered}
use Rattle.owners.proofs.owner_question.owner_opened.Goals as goal

pub returns-in_default : goal.returns-in_default
returns-in_default c = owner_40 _ _ c.requires _ c.in_default.is

pub returns-then-g-block : goal.returns-then-g-block
returns-then-g-block c = owner_44 _ _ c.requires _ _ c.in-Some.is c.if-g-block.true

pub invariant_of-owner_of : goal.invariant_of-owner_of
invariant_of-owner_of c = record { sized = (opened_good _ _ (sym c.requires ∙ c.in-Some.is)).2 }

pub owner_of-requires : goal.owner_of-requires
owner_of-requires c = let o = opened_good _ _ (sym c.requires ∙ c.in-Some.is) in
    record { consistent = o.0; img_value = o.1 }

pub returns : goal.returns
returns c = owner_answered _ _ c.requires _ _ c.in-Some.is c.if-g-block.false _ c.owner_of.ensures
