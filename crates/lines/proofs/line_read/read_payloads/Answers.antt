-- Rests on `ReaderPayloads`: a line that has not ended in a payload goes on in the next one, and the payloads end with the file.
use mathlib.Core.Path.{refl, ◌∙◌}
use native.Mathlib.Omega.{arith}
use Rattle.stream.proofs.SpotPayload.{payload_inside}
use Rattle.lines.proofs.ReaderPayloads.{follow_start, follow_over, follow_ready, follow_ended, follow_next, follow_less}
use Rattle.lines.proofs.line_read.read_payloads.Goals as goal

pub loop-tail-init : goal.loop-tail-init
loop-tail-init c = follow_start refl c.requires.1

pub slice_bounds-read_payload-count : goal.slice_bounds-read_payload-count
slice_bounds-read_payload-count c = (payload_inside c.loop-tail.tail.standing c.loop-tail-test.true).0

pub slice_bounds-read_payload-start : goal.slice_bounds-read_payload-start
slice_bounds-read_payload-start c = (payload_inside c.loop-tail.tail.standing c.loop-tail-test.true).0

pub slice_bounds-read_payload-end : goal.slice_bounds-read_payload-end
slice_bounds-read_payload-end c = (payload_inside c.loop-tail.tail.standing c.loop-tail-test.true).1

pub read_payload-reader-requires : goal.read_payload-reader-requires
read_payload-reader-requires c = follow_ready c.loop-tail.invariant c.loop-tail-test.true c.requires.0

pub shape_of-buffer-in-Some : goal.shape_of-buffer-in-Some
shape_of-buffer-in-Some c = c.read_payload-reader.auto.buffer ∙ c.loop-tail.invariant.long

pub returns-in-Some : goal.returns-in-Some
returns-in-Some c = follow_ended c.loop-tail.invariant c.loop-tail-test.true _ c.read_payload-reader.ensures.result_after c.in-Some.is

pub loop-tail-smaller : goal.loop-tail-smaller
loop-tail-smaller c = follow_less c.loop-tail.invariant c.loop-tail-test.true c.next_payload-tail.result c.next_payload-tail.ensures.bytes

pub loop-tail-preserved : goal.loop-tail-preserved
loop-tail-preserved c = follow_next c.loop-tail.invariant c.loop-tail-test.true _ c.read_payload-reader.ensures.result_after c.in_default.is c.read_payload-reader.auto.buffer
    c.read_payload-reader.ensures.count_le_passed c.next_payload-tail.ensures.bytes

pub shape_of-buffer : goal.shape_of-buffer
shape_of-buffer c = c.loop-tail.invariant.long

pub returns : goal.returns
returns c = follow_over c.loop-tail.invariant c.loop-tail-test.false c.bit_0.ensures.value
