-- Rests on `EntryWordsWritten`: what is left to write makes all sixteen words (`words_step`); `GeometryRoom`: the measures hold of an image as long.
use mathlib.Core.Path.{sym, ◌∙◌}
use native.Mathlib.Omega.{arith}
use Rattle.pack.proofs.EntryWordsWritten.{words_step, words_end, word_small}
use Rattle.pack.proofs.GeometryRoom.{sized_same}
use Rattle.pack.proofs.writing.write_words.Goals as goal

pub set_entry_word-requires : goal.set_entry_word-requires
set_entry_word-requires c = record { sized = sized_same c.requires.sized c.loop-i.invariant.1; e_bound = (c.requires.e_bound.0, c.loop-i-test.true, word_small c.requires.e_bound.1.small c.loop-i.i) }

pub loop-i-preserved : goal.loop-i-preserved
loop-i-preserved c = (
  omega arith,
  c.set_entry_word.auto.img ∙ c.loop-i.invariant.1,
  c.loop-i.invariant.2 ∙ words_step _ _ _ _ _ (omega (arith, c.requires.e_bound.1.long)) _ c.set_entry_word.ensures,
)

pub returns : goal.returns
returns c = sym (c.loop-i.invariant.2 ∙ words_end _ _ _ _ _ (omega (arith, c.requires.e_bound.1.long)))
