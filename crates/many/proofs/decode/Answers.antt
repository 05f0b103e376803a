-- Rests on `Whole`: a record more is read at each turn.
use native.Mathlib.Omega.{arith}
use lib.ListN.{length-set}
use Rattle.many.proofs.Whole.{none_read, one_more_read, all_read}
use Rattle.many.proofs.decode.Goals as goal

pub loop-i-init : goal.loop-i-init
loop-i-init c = (omega arith, (c.blank-list.ensures, none_read _))

pub loop-i-preserved : goal.loop-i-preserved
loop-i-preserved c = (omega arith, (simp length-set c.loop-i.invariant.1.0, one_more_read _ _ _ _ (omega arith) c.loop-i.invariant.1.1 c.record_at-r.ensures))

pub returns : goal.returns
returns c = all_read _ _ (omega arith) c.loop-i.invariant.1.1
