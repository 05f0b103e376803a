-- Rests on `BinaryWritingAnswers`: header and data added as the definition adds them.
use mathlib.Core.Path.{refl}
use Rattle.binary.proofs.BinaryWritingAnswers.{sum_made}
use Rattle.binary.proofs.binary_write.sum_byte.Goals as goal

pub returns : goal.returns
returns c = sum_made c.args.content.now refl c.sum_of.ensures.value
