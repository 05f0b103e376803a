-- Rests on `owner_below` and `owner_behind`: a block before the bodies is the system's, of any other the holder decides.
use Rattle.owners.proofs.OwnerSearch.{owner_below, owner_behind}
use Rattle.owners.proofs.owner_of.Goals as goal

pub returns-then-b-view : goal.returns-then-b-view
returns-then-b-view c = owner_below _ _ c.requires.img_value _ c.if-b-view.true

pub returns : goal.returns
returns c = owner_behind _ _ c.requires.img_value _ c.if-b-view.false _ c.holder_of.ensures
