-- Rests on `LaidNames`: a name is its two words, or its first where the second is blank.
use Rattle.command_writing.proofs.LaidNames.{name_laid, name_alone}
use Rattle.command_writing.proofs.laying.put_name.Goals as goal

pub returns-then-second-eq-BLANK : goal.returns-then-second-eq-BLANK
returns-then-second-eq-BLANK c = name_alone _ _ c.if-second-eq-BLANK.true c.put_word-next.ensures

pub returns : goal.returns
returns c = name_laid _ _ c.put_word-next.ensures c.put_word.ensures
