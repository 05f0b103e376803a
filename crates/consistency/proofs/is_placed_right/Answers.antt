-- Rests on `EntryTestAnswers`: an empty entry is all zero and takes no block; of one in use all else answers.
use mathlib.Core.Path.{sym, ◌∙◌}
use Rattle.consistency.proofs.EntryTestAnswers.{placed_empty, placed_used, empty_mark}
use Rattle.consistency.proofs.is_placed_right.Goals as goal

pub returns-then-entry_word-eq0 : goal.returns-then-entry_word-eq0
returns-then-entry_word-eq0 c = record {
  value = placed_empty _ _ _ _ c.entry_word.ensures.value c.if-entry_word-eq0.true _ c.is_rest_zero.ensures;
  map_after = λ right.
      empty_mark _ _ _ _ (sym c.is_rest_zero.ensures ∙ right);
}

pub returns : goal.returns
returns c = record {
  value = placed_used _ _ _ _ (λ none. c.if-entry_word-eq0.false (c.entry_word.ensures.value ∙ none)) _ c.is_held_right.ensures.value;
  map_after =
      c.is_held_right.ensures.map_after;
}
