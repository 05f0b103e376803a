-- Rests on `LookedMap`: the word of a bit stands in the image, and the bit is in it.
use Rattle.faults.proofs.LookedMap.{bit_inside, bit_read}
use Rattle.faults.proofs.maps.map_bit.Goals as goal

pub word_at-requires : goal.word_at-requires
word_at-requires c = bit_inside _ _ _ c.words.ensures c.args.view.sized c.requires.has_map.0 c.requires.has_map.1

pub returns : goal.returns
returns c = bit_read _ _ _ c.words.ensures c.word_at.ensures.value
