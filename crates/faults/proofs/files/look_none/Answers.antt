-- Rests on `LookedFile`: at length 0 both numbers are 0.
use Rattle.faults.proofs.LookedFile.{told_none_first, told_none_last, fine_none}
use Rattle.faults.proofs.files.look_none.Goals as goal

pub returns-then-first-ne0 : goal.returns-then-first-ne0
returns-then-first-ne0 c = told_none_first c.requires.here c.requires.kind_value.0 c.requires.kind_value.1
    c.if-first-ne0.true

pub returns-then-last-ne0 : goal.returns-then-last-ne0
returns-then-last-ne0 c = told_none_last c.requires.here c.requires.kind_value.0
    c.requires.kind_value.1 c.if-first-ne0.false c.if-last-ne0.true

pub returns : goal.returns
returns c = fine_none c.requires.here c.requires.kind_value.0
    c.requires.kind_value.1 c.if-first-ne0.false c.if-last-ne0.false
