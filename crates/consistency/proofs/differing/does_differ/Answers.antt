-- Rests on `DifferTest`: where none in its list has its number the file is new, and then it stands at the head of the list.
use mathlib.Core.Path.{refl, sym}
use Rattle.answers.proofs.RefusalsTests.{true_not_false}
use Rattle.consistency.proofs.DifferTest.{compared_new, compared_old, listing_more}
use Rattle.consistency.proofs.differing.does_differ.Goals as goal

pub returns-then-not-is_apart : goal.returns-then-not-is_apart
returns-then-not-is_apart c = record {
  value = compared_old _ _ _ _ _ c.requires.e_bound.2 c.key_number-key.ensures.value c.slot_of-slot.ensures.value refl c.key_number-key.ensures.small_key c.is_apart.ensures
      c.if-not-is_apart.true c.requires.e_bound.1;
  listing = λ right. true_not_false (sym right);
}

pub returns : goal.returns
returns c = record {
  value = compared_new _ _ _ _ _ c.requires.e_bound.2 c.key_number-key.ensures.value c.slot_of-slot.ensures.value refl c.is_apart.ensures
      c.if-not-is_apart.false c.requires.e_bound.1;
  listing = λ _. listing_more _ _ _ _ _ c.requires.e_bound.2 c.key_number-key.ensures.value c.slot_of-slot.ensures.value
      c.requires.e_in_bounds.0 refl refl;
}
