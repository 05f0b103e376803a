-- Rests on `EntryWordsWritten`: the fields of an entry are words that fit; `write_words` writes them.
use Rattle.pack.proofs.EntryWordsWritten.{sixteen_of}
use Rattle.pack.proofs.writing.write_entry.Goals as goal

pub write_words-requires : goal.write_words-requires
write_words-requires c = record { sized = c.requires.sized; e_bound = (c.requires.e_bound.0, sixteen_of c.requires.e_bound.1) }
