-- Rests on `GeometryRoom`: each word of an entry stands in the image; `EntryRead`: the word that was read is the entry's.
use Rattle.pack.proofs.EntryRead.{entry_word_is}
use Rattle.pack.proofs.entries.View.entry_word.Goals as goal

pub returns : goal.returns
returns c = record { value = entry_word_is _ _ _ _ _ c.words.ensures c.word_at.ensures.value; upper_bound = c.word_at.ensures.upper_bound }
