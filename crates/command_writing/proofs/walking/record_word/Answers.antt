-- Rests on `WordsIn`: a word of the list is the word of the bytes at its number.
use mathlib.Core.Path.{◌∙◌}
use native.Mathlib.Omega.{arith}
use Rattle.command_writing.proofs.WordsIn.{words_long, word_in}
use Rattle.command_writing.proofs.walking.record_word.Goals as goal

pub word_at-requires : goal.word_at-requires
word_at-requires c = omega (arith, words_long c.args.records.now)

pub returns : goal.returns
returns c = c.word_at.ensures.value ∙ word_in _ _ c.requires
