-- Rests on the contract of `move_entry`: an entry more.
use Rattle.moving.proofs.EntryMoved.{all_done}
use Rattle.moving.proofs.chains.move_entries.Goals as goal

pub returns : goal.returns
returns c = all_done c.loop-e.invariant.1 c.loop-e.auto.e-end c.slot_count-e-end.ensures.value c.loop-e-test.false
