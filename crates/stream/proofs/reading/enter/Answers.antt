-- Rests on `SpotSteps`: with no block left nothing stands there; else the block is of the pack, and its bytes lie within the image.
use native.Mathlib.Omega.{arith}
use Rattle.stream.proofs.SpotSteps.{enter_none, enter_room, enter_some}
use Rattle.stream.proofs.reading.enter.Goals as goal

pub returns-then-left-eq0-clause-bytes : goal.returns-then-left-eq0-clause-bytes
returns-then-left-eq0-clause-bytes c = (enter_none c.requires.chained c.args.offset c.if-left-eq0.true).0

pub overflow_mul-start : goal.overflow_mul-start
overflow_mul-start c = omega (arith, enter_room c.requires.chained c.args.offset c.if-left-eq0.false c.bytes-bytes.ensures)

pub overflow_add-result : goal.overflow_add-result
overflow_add-result c = omega (arith, enter_room c.requires.chained c.args.offset c.if-left-eq0.false c.bytes-bytes.ensures)

pub overflow_add-result-2 : goal.overflow_add-result-2
overflow_add-result-2 c = omega (arith, c.requires.offset_bound, c.bytes-bytes.ensures, enter_room c.requires.chained c.args.offset c.if-left-eq0.false c.bytes-bytes.ensures)

pub overflow_add-result-3 : goal.overflow_add-result-3
overflow_add-result-3 c = omega (arith, enter_room c.requires.chained c.args.offset c.if-left-eq0.false c.bytes-bytes.ensures)

pub returns-clause-bytes : goal.returns-clause-bytes
returns-clause-bytes c = (enter_some c.requires.chained _ c.if-left-eq0.false c.bytes-bytes.ensures c.requires.offset_bound).0
