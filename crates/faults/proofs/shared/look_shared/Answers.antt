-- Rests on `LookedShared`: the first block that is counted twice is the first that two files reach.
use mathlib.Core.Path.{◌∙◌}
use Rattle.faults.proofs.LookedShared.{shared_none, shared_told}
use Rattle.faults.proofs.shared.look_shared.Goals as goal

pub returns-in_default : goal.returns-in_default
returns-in_default c = shared_none c.requires.all_right c.requires.counted.0 c.in_default.ensures

pub returns : goal.returns
returns c = shared_told c.requires.all_right c.requires.counted.0 c.in-Some.ensures (c.unwrap_or.ensures ∙ c.second_holder.ensures)
