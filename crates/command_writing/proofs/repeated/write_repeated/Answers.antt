-- Rests on `LaidMany`: whatever the rest comes to, the whole comes to; each turn lays one more.
use native.Mathlib.Omega.{arith}
use Rattle.command_writing.proofs.LaidMany.{leads_step, leads_wrong, leads_end, went}
use Rattle.command_writing.proofs.repeated.write_repeated.Goals as goal

pub returns-in_err-here : goal.returns-in_err-here
returns-in_err-here g c = rw c.from_residual.ensures (leads_wrong c.loop.invariant.1 (omega arith) c.write.ensures c.in_err-here.was _)

pub loop-preserved : goal.loop-preserved
loop-preserved g c = ((went c.write.ensures c.in_ok-here.was).taken.within, leads_step c.loop.invariant.1 (omega arith) c.write.ensures c.in_ok-here.was)

pub returns : goal.returns
returns g c = leads_end c.loop.invariant.1 (omega arith) c.loop.invariant.0
