-- Rests on `LookedEntry`: the words of an entry stand in the image, and all are 0 exactly if it is empty.
use Rattle.faults.proofs.LookedEntry.{empty_iff}
use Rattle.faults.proofs.entries.is_empty.Goals as goal

pub returns : goal.returns
returns c = empty_iff _ _ _ c.words.ensures c.are_words_zero.ensures
