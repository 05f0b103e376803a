-- Rests on `Folds`: a record more is made at each turn, and when all are made the list is done.
use Rattle.std.proofs.Common.{arith}
use Rattle.many.proofs.Folds.{none_made, one_more_made, all_made}
use Rattle.many.proofs.many.Goals as goal

pub loop-i-init : goal.loop-i-init
loop-i-init c = none_made _ _ _ _ _ c.requires.0

pub beside-requires : goal.beside-requires
beside-requires c = (c.loop-i.invariant.fits, omega (arith, c.loop-i.invariant.as_many))

pub loop-i-preserved : goal.loop-i-preserved
loop-i-preserved c = one_more_made c.loop-i.invariant _ _ _ _ c.loop-i-test.true c.beside.ensures c.beside.auto.img c.beside.auto.map c.beside.auto.answers

pub returns : goal.returns
returns c = all_made c.loop-i.invariant (omega (arith, c.loop-i.invariant.within))
