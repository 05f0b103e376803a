-- Rests on the contract of `csi2`, a relation, in the numbers that `from` makes of the answer.
use Rattle.command.specs.Csi2 as Two
use Rattle.service.proofs.commands.abz_csi2.Goals as goal

pub returns : goal.returns
returns c = rw c.into.ensures (Two.Csi2Answered.answered c.csi2.ensures)
