-- Rests on `EntryMoved`: the file of an entry, and then its two words.
use mathlib.Core.Path.{ap, ◌∙◌}
use native.Mathlib.Omega.{arith}
use lib.ListN.{length}
use Rattle.words.proofs.Word.{length_set_word}
use Rattle.moving.proofs.EntryMoved.{first_small, last_small, entry_inside, entry_inside₂, entry_done}
use Rattle.moving.proofs.chains.move_entry.Goals as goal

pub set_word-requires : goal.set_word-requires
set_word-requires c = (
  entry_inside c.requires.source.0 c.requires.source.1 6 c.move_chain.ensures c.words.ensures (omega arith),
  first_small c.requires.source.0 c.requires.source.1
      c.renumber-first.ensures c.entry_word.ensures.value,
)

pub set_word-requires-2 : goal.set_word-requires-2
set_word-requires-2 c = (
  entry_inside₂ c.requires.source.0 c.requires.source.1 8 c.move_chain.ensures c.words.ensures (omega arith)
      (ap length c.set_word.ensures ∙ length_set_word _ _ _),
  last_small c.requires.source.0 c.requires.source.1 c.renumber-last.ensures c.entry_word-2.ensures.value,
)

pub returns : goal.returns
returns c = entry_done c.requires.source.0 c.requires.source.1 c.move_chain.ensures c.words.ensures c.renumber-first.ensures c.entry_word.ensures.value
    c.renumber-last.ensures c.entry_word-2.ensures.value c.set_word.ensures c.set_word-2.ensures
