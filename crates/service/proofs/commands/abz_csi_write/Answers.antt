-- Rests on the contract of `csi_write`, a relation, in the numbers that `writing_answer` makes of the answer.
use Rattle.command_writing.specs.CsiWrite as Write
use Rattle.service.proofs.commands.abz_csi_write.Goals as goal

pub returns : goal.returns
returns c = rw c.writing_answer.ensures (Write.CsiWriteAnswered.answered c.csi_write.ensures)
