-- Rests on `AppndWrites`: no block, no first block and two chains are the three cases of `chain_joined`.
use mathlib.Core.Path.{◌∙◌}
use Rattle.appending.proofs.AppndWrites.{joined_nothing, joined_whole, joined_by}
use Rattle.appending.proofs.appnd.join.Goals as goal

pub returns-then-y-eq0 : goal.returns-then-y-eq0
returns-then-y-eq0 c = joined_nothing _ _ _ _ _ c.if-y-eq0.true

pub returns-then-x-eq0 : goal.returns-then-x-eq0
returns-then-x-eq0 c = c.resize.ensures ∙ joined_whole _ _ _ _ _ c.if-y-eq0.false c.if-x-eq0.true

pub returns : goal.returns
returns c = joined_by _ _ _ _ _ c.if-y-eq0.false c.if-x-eq0.false _ _ c.set_link.ensures c.resize-2.ensures
