-- Rests on `LinkedAddWrites`: in both cases the words and the link that are written make `added`; what the steps ask holds of each image in turn.
use mathlib.Core.Path.{◌∙◌}
use Rattle.adding.proofs.LinkedAddWrites.{begun_by, continued_by}
use Rattle.adding.proofs.linked_add.add_block.Goals as goal

pub invariant_of-read_entry : goal.invariant_of-read_entry
invariant_of-read_entry c = record { sized = c.requires.sized }

pub returns-then-x-eq0 : goal.returns-then-x-eq0
returns-then-x-eq0 c = begun_by _ _ _ _ _ _ c.read_entry-x.ensures.value c.if-x-eq0.true _ _ c.write_last_block.ensures c.resize.ensures

pub returns : goal.returns
returns c = continued_by _ _ _ _ _ _ c.read_entry-x.ensures.value c.if-x-eq0.false _ _ _ c.write_last_block.ensures c.set_link.ensures c.resize-2.ensures
