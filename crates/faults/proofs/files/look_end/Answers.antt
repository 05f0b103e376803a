-- Rests on `LookedFile`: the last block by word 8, then its link.
use Rattle.faults.proofs.LookedFile.{told_last, told_end, fine_end}
use Rattle.faults.proofs.files.look_end.Goals as goal

pub returns-then-b-last : goal.returns-then-b-last
returns-then-b-last c = told_last c.requires.0 c.requires.1 c.if-b-last.true

pub returns-then-behind-ne0 : goal.returns-then-behind-ne0
returns-then-behind-ne0 c = told_end c.requires.0 c.requires.1
    c.if-b-last.false c.next_block-behind.ensures.result_value c.if-behind-ne0.true

pub returns : goal.returns
returns c = fine_end c.requires.0 c.requires.1
    c.if-b-last.false c.next_block-behind.ensures.result_value c.if-behind-ne0.false
