-- Rests on `NulsSkipped`: a payload of NULs to its end is passed, and in any other the line begins.
use mathlib.Core.Path.{refl, ◌∙◌}
use native.Mathlib.Omega.{arith}
use Rattle.stream.proofs.SpotPayload.{payload_inside, payload_small}
use Rattle.binary.proofs.NulsSkipped.{skip_start, skip_few, skip_within, skip_found, skip_next, skip_less, skip_end}
use Rattle.binary.proofs.heading.skip_nuls.Goals as goal

pub loop-tail-init : goal.loop-tail-init
loop-tail-init c = (skip_start, (refl, refl))

pub slice_bounds-nuls_in-count : goal.slice_bounds-nuls_in-count
slice_bounds-nuls_in-count c = (payload_inside c.loop-tail.tail.standing c.loop-tail-test.true).0

pub slice_bounds-nuls_in-start : goal.slice_bounds-nuls_in-start
slice_bounds-nuls_in-start c = (payload_inside c.loop-tail.tail.standing c.loop-tail-test.true).0

pub slice_bounds-nuls_in-end : goal.slice_bounds-nuls_in-end
slice_bounds-nuls_in-end c = (payload_inside c.loop-tail.tail.standing c.loop-tail-test.true).1

pub overflow_add-nuls : goal.overflow_add-nuls
overflow_add-nuls c = omega (
  arith,
  c.loop-tail.invariant.0.whole,
  c.requires,
  skip_few c.loop-tail.invariant.0 c.loop-tail-test.true c.nuls_in-here.ensures.value,
)

pub overflow_add-at : goal.overflow_add-at
overflow_add-at c = omega (
  arith,
  skip_within c.loop-tail.invariant.0 c.loop-tail-test.true c.nuls_in-here.ensures.value c.nuls_in-here.ensures.upper_bound,
  payload_small c.loop-tail.tail.standing c.loop-tail-test.true,
)

pub returns-then-at-here-clause-bytes : goal.returns-then-at-here-clause-bytes
returns-then-at-here-clause-bytes c = skip_found c.loop-tail.invariant.0 c.loop-tail-test.true c.nuls_in-here.ensures.value c.if-at-here.true c.go_on.result c.go_on.ensures.bytes

pub loop-tail-smaller : goal.loop-tail-smaller
loop-tail-smaller c = skip_less c.loop-tail.invariant.0 c.loop-tail-test.true c.nuls_in-here.ensures.value c.next_payload-tail.result
    c.next_payload-tail.ensures.bytes

pub loop-tail-preserved : goal.loop-tail-preserved
loop-tail-preserved c = (
  skip_next c.loop-tail.invariant.0 c.loop-tail-test.true c.nuls_in-here.ensures.value
      c.if-at-here.false c.nuls_in-here.ensures.upper_bound c.next_payload-tail.result c.next_payload-tail.ensures.bytes,
  (c.next_payload-tail.ensures.image.0 ∙ c.loop-tail.invariant.1.0, c.next_payload-tail.ensures.image.1 ∙ c.loop-tail.invariant.1.1),
)

pub returns-clause-bytes : goal.returns-clause-bytes
returns-clause-bytes c = skip_end c.loop-tail.invariant.0 (omega (arith, c.loop-tail-test.false))
