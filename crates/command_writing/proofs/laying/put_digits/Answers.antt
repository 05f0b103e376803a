-- Rests on `LaidPieces`: two pieces one behind the other.
use Rattle.command_writing.proofs.LaidPieces.{puts_both}
use Rattle.command_writing.proofs.laying.put_digits.Goals as goal

pub returns : goal.returns
returns c = puts_both c.put_digit-next.ensures c.put_digit.ensures
