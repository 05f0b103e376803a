-- Rests on `ConsistentTestScan`: an empty entry has no name; of one in use its key is judged, and then whether its file is new.
use mathlib.Core.Path.{sym, ◌∙◌}
use Rattle.answers.proofs.RefusalsTests.{true_not_false}
use Rattle.consistency.proofs.DifferTest.{number_used, number_words, listing_empty}
use Rattle.consistency.proofs.ConsistentTestScan.{named_empty, named_wrong, named_new}
use Rattle.consistency.proofs.is_named_right.Goals as goal

pub returns-then-key_number-eq0 : goal.returns-then-key_number-eq0
returns-then-key_number-eq0 c = let none = sym (number_words _ _ _ c.key_number.ensures.value c.key_number.ensures.small_key).0 ∙ c.if-key_number-eq0.true in
    record { value = named_empty _ _ _ none; listing = λ _. listing_empty _ _ _ _ _ none c.requires.right_header.2 }

pub returns-then-not-is_key_right : goal.returns-then-not-is_key_right
returns-then-not-is_key_right c = record {
  value = named_wrong _ _ _ (number_used _ _ _ c.key_number.ensures.value c.key_number.ensures.small_key c.if-key_number-eq0.false)
      (sym c.is_key_right.ensures ∙ c.if-not-is_key_right.true);
  listing = λ right. true_not_false (sym right);
}

pub does_differ-requires : goal.does_differ-requires
does_differ-requires c = record {
  e_bound = (
    c.requires.right_header.1,
    number_used _ _ _ c.key_number.ensures.value c.key_number.ensures.small_key
        c.if-key_number-eq0.false,
    c.requires.right_header.2,
  );
  e_in_bounds = (c.requires.e_in_bounds.0, c.requires.e_in_bounds.1);
}

pub returns : goal.returns
returns c = let right = sym c.is_key_right.ensures ∙ c.if-not-is_key_right.false in
    record {
      value = named_new _ _ _ (number_used _ _ _ c.key_number.ensures.value c.key_number.ensures.small_key c.if-key_number-eq0.false) right _ c.does_differ.ensures.value;
      listing = c.does_differ.ensures.listing;
    }
