-- Rests on `StandingSpecifications`: a comma, and the specification behind it.
use Rattle.command_writing.proofs.StandingSpecifications.{next_laid}
use Rattle.command_writing.proofs.sides.FollowingRepeated.write.Goals as goal

pub returns : goal.returns
returns c = next_laid c.put-comma.ensures c.write_specification.ensures
