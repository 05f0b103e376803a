-- Rests on `ReportedParts`: the second stage is asked where the first finds no fault.
use mathlib.Core.Path.{refl}
use Rattle.faults.proofs.FaultNamed.{carried, fault_some}
use Rattle.faults.proofs.ReportedParts.{reported_front, reported_then}
use Rattle.faults.proofs.blocks.look_counted.Goals as goal

pub returns-in_err-look_shared : goal.returns-in_err-look_shared
returns-in_err-look_shared c = rw (carried c.from_residual.ensures.1) (reported_front _ c.in_err-look_shared.ensures (fault_some _))

pub returns : goal.returns
returns c = reported_then c.in_ok-look_shared.ensures refl c.look_map.ensures
