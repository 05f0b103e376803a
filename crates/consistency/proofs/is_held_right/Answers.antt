-- Rests on `EntryTestAnswers`: what each test of the entry answers where those before it passed; the blocks by the kind.
use mathlib.Core.Path.{sym, ◌∙◌}
use Rattle.consistency.proofs.EntryTestAnswers.{held_protect, held_open, held_run, held_chain, run_mark, chain_mark}
use Rattle.consistency.proofs.is_held_right.Goals as goal

pub returns-then-entry_word-gt255 : goal.returns-then-entry_word-gt255
returns-then-entry_word-gt255 c = record { value = held_protect _ _ _ _ c.entry_word.ensures.value c.if-entry_word-gt255.true; map_after = λ e. cc }

pub returns-then-not-is_open_right : goal.returns-then-not-is_open_right
returns-then-not-is_open_right c = record {
  value = held_open _ _ _ _ c.entry_word.ensures.value c.if-entry_word-gt255.false c.entry_word-kind.ensures.value
      (sym c.is_open_right.ensures ∙ c.if-not-is_open_right.true);
  map_after = λ e. cc;
}

pub returns-then-kind-eq1 : goal.returns-then-kind-eq1
returns-then-kind-eq1 c = let opened = sym c.is_open_right.ensures ∙ c.if-not-is_open_right.false in
    record {
      value = held_run _ _ _ _ c.entry_word.ensures.value c.if-entry_word-gt255.false c.entry_word-kind.ensures.value opened c.entry_word-2.ensures.value
          c.entry_word-count.ensures.value c.entry_word-3.ensures.value c.if-kind-eq1.true _ (c.is_run_right.ensures.by_index _);
      map_after = λ right. run_mark _ _ _ _
          c.entry_word.ensures.value c.if-entry_word-gt255.false c.entry_word-kind.ensures.value opened c.entry_word-2.ensures.value c.entry_word-count.ensures.value
          c.entry_word-3.ensures.value c.if-kind-eq1.true (c.is_run_right.ensures.by_index_2 _ right);
    }

pub returns : goal.returns
returns c = let opened = sym c.is_open_right.ensures ∙ c.if-not-is_open_right.false in
    record {
      value = held_chain _ _ _ _ c.entry_word.ensures.value c.if-entry_word-gt255.false c.entry_word-kind.ensures.value opened c.entry_word-2.ensures.value
          c.entry_word-count.ensures.value c.entry_word-3.ensures.value c.if-kind-eq1.false _ c.is_chain_right.ensures.value;
      map_after = λ right. chain_mark _ _ _ _
          c.entry_word.ensures.value c.if-entry_word-gt255.false c.entry_word-kind.ensures.value opened c.entry_word-2.ensures.value c.entry_word-count.ensures.value
          c.entry_word-3.ensures.value c.if-kind-eq1.false (c.is_chain_right.ensures.map_after right);
    }
