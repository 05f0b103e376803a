-- Rests on `LaidNames`: a word is its three codes.
use Rattle.command_writing.proofs.LaidNames.{word_laid}
use Rattle.command_writing.proofs.laying.put_word.Goals as goal

pub returns : goal.returns
returns c = word_laid _ c.first.ensures c.put_code-first.ensures c.second.ensures c.put_code-second.ensures c.third.ensures c.put_code.ensures
