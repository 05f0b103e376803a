-- Rests on `DifferTest`: the list is one of as many as there are, few or many.
use mathlib.Core.Path.{refl}
use Rattle.consistency.proofs.DifferTest.{slot_few, slot_many}
use Rattle.consistency.proofs.differing.slot_of.Goals as goal

pub returns-then-long-eq-FEW_LISTS : goal.returns-then-long-eq-FEW_LISTS
returns-then-long-eq-FEW_LISTS c = let both = slot_few _ _ c.requires refl c.if-long-eq-FEW_LISTS.true in
    record { value = both.0; upper_bound = both.1 }

pub returns : goal.returns
returns c = let both = slot_many _ _ c.requires refl c.if-long-eq-FEW_LISTS.false in
    record { value = both.0; upper_bound = both.1 }
