-- Rests on `LookedFile`: the words of an extent, or what the look at a chain tells.
use Rattle.faults.proofs.LookedFile.{told_extent, fine_extent}
use Rattle.faults.proofs.files.look_file.Goals as goal

pub returns-in-Some : goal.returns-in-Some
returns-in-Some c = told_extent c.requires.here.0 c.if-x-ne1.false c.in-Some.ensures

pub returns : goal.returns
returns c = fine_extent c.requires.here.0 c.if-x-ne1.false c.in_default.ensures
