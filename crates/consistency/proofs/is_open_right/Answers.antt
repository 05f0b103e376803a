-- Rests on `EntryTestAnswers`: a closed file's words are 0, and then the kind decides; else what each test answers where those before it passed.
use mathlib.Core.Path.{sym, ◌∙◌}
use Rattle.consistency.proofs.EntryTestAnswers.{open_closed, open_writer, open_many, open_rest}
use Rattle.consistency.proofs.is_open_right.Goals as goal

pub returns-then-is_closed : goal.returns-then-is_closed
returns-then-is_closed c = open_closed _ _ _ _ (c.is_closed.ensures c.if-is_closed.true)

pub returns-then-not-is_writer_right : goal.returns-then-not-is_writer_right
returns-then-not-is_writer_right c = open_writer _ _ _ _ c.entry_word-writer.ensures.value (sym c.is_writer_right.ensures ∙ c.if-not-is_writer_right.true)

pub returns-then-not-is_few_opens : goal.returns-then-not-is_few_opens
returns-then-not-is_few_opens c = open_many _ _ _ _ c.entry_word-writer.ensures.value
    (sym c.is_writer_right.ensures ∙ c.if-not-is_writer_right.false)
    c.entry_word.ensures.value (sym c.is_few_opens.ensures ∙ c.if-not-is_few_opens.true)

pub returns : goal.returns
returns c = open_rest _ _ _ _ c.entry_word-writer.ensures.value
    (sym c.is_writer_right.ensures ∙ c.if-not-is_writer_right.false)
    c.entry_word.ensures.value (sym c.is_few_opens.ensures ∙ c.if-not-is_few_opens.false) _ c.is_rest_zero.ensures
