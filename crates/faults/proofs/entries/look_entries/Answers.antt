-- Rests on `LookedWhole`: the entries below this one are right, and the first that is not is told.
use mathlib.Core.Path.{refl}
use Rattle.pack.proofs.GeometryRoom.{below_count, past_count}
use Rattle.faults.proofs.FaultNamed.{carried, fault_some}
use Rattle.faults.proofs.LookedWhole.{right_on, entries_told, entries_fine}
use Rattle.faults.proofs.entries.look_entries.Goals as goal

pub returns-in_err-look_entry : goal.returns-in_err-look_entry
returns-in_err-look_entry c = rw (carried c.from_residual.ensures.1)
    (entries_told c.requires (below_count c.slot_count-e-end.ensures.value c.loop-e-test.true) c.loop-e.invariant
    c.in_err-look_entry.ensures (fault_some _))

pub loop-e-preserved : goal.loop-e-preserved
loop-e-preserved c = right_on c.loop-e.invariant c.in_ok-look_entry.ensures refl

pub returns : goal.returns
returns c = entries_fine c.requires (past_count c.slot_count-e-end.ensures.value c.loop-e-test.false) c.loop-e.invariant
