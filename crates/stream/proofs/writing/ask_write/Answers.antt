-- Rests on `BytesWritingStage`: with a wrong gather buffer any number of blocks may be asked for, with a right one it is as many as become full.
use Rattle.stream.proofs.BytesWritingStage.{stage_written}
use Rattle.stream.proofs.writing.ask_write.Goals as goal

pub returns : goal.returns
returns c = λ put counted. stage_written _ _ _ c.args.wrong c.args.gather.now c.args.filled put counted c.is_gather_wrong-unfit.ensures c.ask_add.ensures
