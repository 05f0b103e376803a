-- Rests on the contract of `csi1`, a relation, in the numbers that `condensing_answer` makes of the answer.
use Rattle.command.specs.Csi1 as One
use Rattle.service.proofs.commands.abz_csi1.Goals as goal

pub returns : goal.returns
returns c = rw c.condensing_answer.ensures (One.Csi1Answered.answered c.csi1.ensures)
