-- Rests on `taken_by`: the run is cleared, and then its bits are made 1.
use Rattle.room.proofs.Taken.{taken_by}
use Rattle.room.proofs.take_run.Goals as goal

pub returns : goal.returns
returns c = record { img_after = taken_by _ _ _ _ c.clear_run.ensures.img_after c.mark_run.ensures; map_after = c.clear_run.ensures.map_after }
