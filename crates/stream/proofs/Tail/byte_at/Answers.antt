-- Rests on `SpotSteps`: the byte of a spot with blocks left lies within the image.
use Rattle.stream.proofs.SpotSteps.{spot_inside}
use Rattle.stream.proofs.Tail.byte_at.Goals as goal

pub byte_at-requires : goal.byte_at-requires
byte_at-requires c = spot_inside c.args.self.standing c.requires
