-- Rests on `EntryWordsWritten`: zeros are words that fit; `write_words` writes them.
use Rattle.pack.proofs.EntryWordsWritten.{sixteen_zeros}
use Rattle.pack.proofs.writing.clear_entry.Goals as goal

pub write_words-requires : goal.write_words-requires
write_words-requires c = record { sized = c.requires.sized; e_bound = (c.requires.e_bound, sixteen_zeros) }
