-- Rests on `EntryRead`: a key whose four words are those of an entry is the entry's key.
use Rattle.pack.proofs.EntryRead.{key_is}
use Rattle.pack.proofs.entries.View.read_key.Goals as goal

pub returns : goal.returns
returns c = key_is _ _ _ _ c.entry_word.ensures.value c.entry_word-2.ensures.value c.entry_word-3.ensures.value
    c.entry_word-4.ensures.value
