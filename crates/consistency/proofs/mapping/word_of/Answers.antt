-- Rests on `MapTestBits`: from the last block on there is no mark, and before it sixteen are on the map.
use Rattle.consistency.proofs.MapTestBits.{word_beyond}
use Rattle.consistency.proofs.mapping.word_of.Goals as goal

pub returns-then-blocks-w : goal.returns-then-blocks-w
returns-then-blocks-w c = word_beyond c.requires.0 _ c.if-blocks-w.true
