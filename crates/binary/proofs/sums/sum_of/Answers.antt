-- Rests on `BinarySums`: a byte more is added, and the sum of all is that of so many.
use mathlib.Core.Path.{refl}
use native.Mathlib.Omega.{arith}
use Rattle.binary.specs.BinaryLine.{sum_of}
use Rattle.binary.proofs.BinarySums.{sum_next, sum_end}
use Rattle.binary.proofs.sums.sum_of.Goals as goal

pub loop-byte-init : goal.loop-byte-init
loop-byte-init c = (omega arith, (unfold sum_of in refl), omega arith)

pub overflow_add-sum : goal.overflow_add-sum
overflow_add-sum c = omega (arith, c.type_inv.part c.loop-byte.byte-index, c.loop-byte.invariant.2, c.requires)

pub loop-byte-preserved : goal.loop-byte-preserved
loop-byte-preserved c = let byte = c.type_inv.part c.loop-byte.byte-index in
    (omega arith, sum_next _ _ c.loop-byte-test.true c.loop-byte.invariant.1, omega (arith, c.loop-byte.invariant.2, byte))

pub overflow_cast-result : goal.overflow_cast-result
overflow_cast-result c = omega (arith, c.loop-byte.invariant.2, c.requires, c.loop-byte.invariant.0)

pub returns : goal.returns
returns c = record {
  value = sum_end _ _ c.loop-byte-test.false c.loop-byte.invariant.0 c.loop-byte.invariant.1;
  upper_bound = omega (arith, c.loop-byte.invariant.2, c.loop-byte.invariant.0);
}
