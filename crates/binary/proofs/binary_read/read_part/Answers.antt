-- Rests on `LineReadOn`: with nothing to come a new line is read, and otherwise the one that goes on.
use native.Mathlib.Omega.{arith}
use Rattle.binary.proofs.LineReadOn.{part_new, part_on}
use Rattle.binary.proofs.binary_read.read_part.Goals as goal

pub returns-then-coming-eq0 : goal.returns-then-coming-eq0
returns-then-coming-eq0 c = part_new _ _ _ c.if-coming-eq0.true (c.requires.coming_bound.2 c.if-coming-eq0.true) c.read_new.ensures

pub read_data-requires : goal.read_data-requires
read_data-requires c = (c.requires.buffer_nonzero.0, omega (arith, c.requires.coming_bound.0), omega (arith, c.requires.coming_bound.1))

pub returns : goal.returns
returns c = part_on _ _ _ _ _ c.if-coming-eq0.false c.read_data.ensures
