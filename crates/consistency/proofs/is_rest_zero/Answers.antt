-- Rests on `EntryTestWhole`: the words of an entry stand in the image, and the words that were tested are the entry's.
use Rattle.consistency.proofs.EntryTestWhole.{rest_is}
use Rattle.consistency.proofs.is_rest_zero.Goals as goal

pub returns : goal.returns
returns c = rest_is _ c.args.view.g _ _ _ c.words.ensures c.are_words_zero.ensures
