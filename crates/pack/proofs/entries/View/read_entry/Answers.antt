-- Rests on `EntryRead`: an entry whose fields are the words of entry e is that entry; `entry_word` gives each word and its bound.
use native.Mathlib.Omega.{arith}
use Rattle.pack.proofs.EntryRead.{entry_is}
use Rattle.pack.proofs.entries.View.read_entry.Goals as goal

pub returns : goal.returns
returns c = record {
  value = entry_is _ _ _ _ c.entry_word.ensures.value c.entry_word-2.ensures.value c.entry_word-3.ensures.value c.entry_word-4.ensures.value c.entry_word-5.ensures.value c.entry_word-6.ensures.value
      c.entry_word-7.ensures.value c.entry_word-8.ensures.value c.entry_word-9.ensures.value c.entry_word-10.ensures.value c.entry_word-11.ensures.value;
  word_fields = record {
    name1 = c.entry_word.ensures.upper_bound;
    name2 = c.entry_word-2.ensures.upper_bound;
    extension = c.entry_word-3.ensures.upper_bound;
    uic = c.entry_word-4.ensures.upper_bound;
    protect = c.entry_word-5.ensures.upper_bound;
    kind = c.entry_word-6.ensures.upper_bound;
    first = c.entry_word-7.ensures.upper_bound;
    length = c.entry_word-8.ensures.upper_bound;
    last = c.entry_word-9.ensures.upper_bound;
    writer = c.entry_word-10.ensures.upper_bound;
    readers = c.entry_word-11.ensures.upper_bound;
  };
}
