-- Rests on `LookedEntry`: of an empty entry each rule holds; another is told as it was read.
use Rattle.faults.proofs.LookedEntry.{told_empty}
use Rattle.faults.proofs.entries.look_entry.Goals as goal

pub returns-then-is_empty : goal.returns-then-is_empty
returns-then-is_empty c = told_empty c.requires.0 (c.is_empty.ensures.0 c.if-is_empty.true)
