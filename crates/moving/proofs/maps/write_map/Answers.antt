-- Rests on `MapWriting`: a word more.
use Rattle.moving.proofs.MapWords.{word_fits}
use Rattle.moving.proofs.MapWriting.{write_more, write_room}
use Rattle.moving.proofs.maps.write_map.Goals as goal

pub set_word-requires : goal.set_word-requires
set_word-requires c = (
  write_room c.loop-w.invariant c.words-words.ensures c.requires.sized c.requires.has_map.0 c.loop-w-test.true,
  word_fits _ c.requires.has_map.1.few _ c.word_of-word.ensures,
)

pub loop-w-preserved : goal.loop-w-preserved
loop-w-preserved c = write_more c.loop-w.invariant c.words-words.ensures c.requires.sized c.requires.has_map.0 c.loop-w-test.true c.word_of-word.ensures
    c.set_word.ensures
