-- Rests on `ReaderPart`: each byte of the part is discarded, ends the line, fills the buffer of special mode, or is laid and the line goes on.
use mathlib.Core.Path.{refl}
use lib.ListN.{length-set}
use native.Mathlib.Omega.{arith}
use Rattle.lines.proofs.ReaderPart.{part_start, part_over, part_discarded, part_terminator, part_full, part_plain}
use Rattle.lines.proofs.line_read.read_payload.Goals as goal
use Rattle.lines.proofs.line_read.read_payload.Goals.{in-Discarded, in-Plain+else-is_special-most}

pub loop-i-init : goal.loop-i-init
loop-i-init c = part_start refl

pub shape_of-buffer-in-Terminator : goal.shape_of-buffer-in-Terminator
shape_of-buffer-in-Terminator c = simp length-set c.loop-i.invariant.long

pub returns-in-Terminator : goal.returns-in-Terminator
returns-in-Terminator c = record {
  result_after = part_terminator c.loop-i.invariant c.loop-i-test.true c.role_of-role.ensures c.place_in-place.ensures c.in-Terminator.is
      c.bit_0.ensures.value;
  count_le_passed = omega arith;
}

pub shape_of-buffer-then-is_special-most : goal.shape_of-buffer-then-is_special-most
shape_of-buffer-then-is_special-most c = simp length-set c.loop-i.invariant.long

pub returns-then-is_special-most : goal.returns-then-is_special-most
returns-then-is_special-most c = record {
  result_after = part_full c.loop-i.invariant c.loop-i-test.true c.role_of-role.ensures c.place_in-place-in-Plain.ensures c.in-Plain.is
      c.is_special.ensures c.if-is_special-most.true;
  count_le_passed = omega arith;
}

pub loop-i-preserved : goal.loop-i-preserved
loop-i-preserved c = elim c.match-role.branch [
  | in-Discarded w ↦ part_discarded c.loop-i.invariant c.loop-i-test.true c.role_of-role.ensures w.in-Discarded.is w.buffer-is w.count-is
  | in-Plain+else-is_special-most w ↦ part_plain c.loop-i.invariant c.loop-i-test.true c.role_of-role.ensures w.place_in-place-in-Plain.ensures w.in-Plain.is
      w.is_special.ensures w.if-is_special-most.false w.buffer-is w.count-is
]

pub shape_of-buffer : goal.shape_of-buffer
shape_of-buffer c = c.loop-i.invariant.long

pub returns : goal.returns
returns c = record { result_after = part_over c.loop-i.invariant c.loop-i-test.false; count_le_passed = omega arith }
