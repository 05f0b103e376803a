-- Rests on `part_copied`: bytes that leave room are laid, and they are what is put for the part.
use native.Mathlib.Omega.{arith}
use Rattle.stream.proofs.FillingLoop.{writable_room}
use Rattle.lines.proofs.LineWriteLaid.{part_copied}
use Rattle.lines.proofs.line_write.lay_part.Goals as goal

pub overflow_sub-gather : goal.overflow_sub-gather
overflow_sub-gather c = omega (arith, writable_room c.requires)

pub lay_within-requires : goal.lay_within-requires
lay_within-requires c = omega (arith, (c.may_copy.ensures c.if-may_copy.true).0)

pub returns-then-may_copy : goal.returns-then-may_copy
returns-then-may_copy c = part_copied (c.may_copy.ensures c.if-may_copy.true).1 c.lay_within.ensures
