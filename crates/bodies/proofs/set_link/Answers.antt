-- Rests on `link_read`: the link of a block of the pack stands in the image.
use Rattle.words.specs.Word.{set_word}
use Rattle.pack.proofs.GeometryRoom.{link_read}
use Rattle.bodies.proofs.set_link.Goals as goal

pub set_word-requires : goal.set_word-requires
set_word-requires c = (link_read c.requires.sized c.args.b.0 c.words.ensures c.requires.bodies_le_b.1, c.requires.bodies_le_b.2)
