-- Rests on `FinishLoop`: one entry, its file deleted or left.
use Rattle.finishing.proofs.FinishLoop.{entry_gone}
use Rattle.finishing.proofs.finish.clear_scratch.Goals as goal

pub returns-then-is_scratch : goal.returns-then-is_scratch
returns-then-is_scratch c = let both = entry_gone _ _ _ c.read_entry-x.ensures.value _ c.is_scratch.ensures c.if-is_scratch.true c.clear_bits.ensures c.clear_entry.ensures in
    record { value = both.0; img_after = both.1 }
