-- The test, as a number.
use borrow.Author.Tests.{eq-eqb, ne_eqb}
use Prim.Native.Nat.{◌%◌}
use native.Mathlib.Omega.{arith}
use Rattle.binary.proofs.binary_read.bit_1.Goals as goal

pub returns-then-total-eq0 : goal.returns-then-total-eq0
returns-then-total-eq0 c = record { value = rw (eq-eqb (c.args.total % 256) 0 c.if-total-eq0.true); upper_bound = omega arith }

pub returns : goal.returns
returns c = record { value = rw (ne_eqb (c.args.total % 256) 0 c.if-total-eq0.false); upper_bound = omega arith }
