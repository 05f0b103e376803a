-- Rests on `DataFetched`: a part more is laid and added, as long as there are bytes and more may be taken.
use mathlib.Core.Path.{refl, ◌∙◌}
use native.Mathlib.Omega.{arith}
use Rattle.stream.proofs.SpotPayload.{payload_small}
use Rattle.binary.proofs.DataFetched.{fetch_start, fetch_all, fetch_end, part_room, part_short, fetch_next}
use Rattle.binary.proofs.fetching.fetch_data.Goals as goal

pub loop-count-init : goal.loop-count-init
loop-count-init c = (fetch_start, (refl, refl))

pub shape_of-buffer-then-behind-eq0 : goal.shape_of-buffer-then-behind-eq0
shape_of-buffer-then-behind-eq0 c = c.loop-count.invariant.0.long

pub returns-then-behind-eq0-clause-bytes : goal.returns-then-behind-eq0-clause-bytes
returns-then-behind-eq0-clause-bytes c = fetch_end c.loop-count.invariant.0 c.if-behind-eq0.true

pub overflow_sub-behind : goal.overflow_sub-behind
overflow_sub-behind c = omega (arith, c.loop-count.behind.standing.before (omega (arith, c.if-behind-eq0.false)))

pub overflow_sub-limit : goal.overflow_sub-limit
overflow_sub-limit c = omega (arith, c.loop-count-test.true)

pub overflow_add-at : goal.overflow_add-at
overflow_add-at c = omega (
  arith,
  part_room c.loop-count.invariant.0 (omega (arith, c.if-behind-eq0.false)) c.min-here.ensures,
  payload_small c.loop-count.behind.standing (omega (arith, c.if-behind-eq0.false)),
)

pub slice_bounds-lay_part-end : goal.slice_bounds-lay_part-end
slice_bounds-lay_part-end c = omega (arith, part_room c.loop-count.invariant.0 (omega (arith, c.if-behind-eq0.false)) c.min-here.ensures)

pub lay_part-requires : goal.lay_part-requires
lay_part-requires c = let short = part_short c.loop-count.invariant.0 (omega (arith, c.if-behind-eq0.false)) c.min-here.ensures c.requires.1 in
    (omega (arith, c.loop-count.invariant.0.long, c.requires.0), omega (arith, c.loop-count.invariant.0.few, c.requires.1), short)

pub overflow_add-at-in-loop-count : goal.overflow_add-at-in-loop-count
overflow_add-at-in-loop-count c = omega (
  arith,
  part_room c.loop-count.invariant.0 (omega (arith, c.if-behind-eq0.false)) c.min-here.ensures,
  payload_small c.loop-count.behind.standing (omega (arith, c.if-behind-eq0.false)),
)

pub slice_bounds-sum_of-end : goal.slice_bounds-sum_of-end
slice_bounds-sum_of-end c = omega (arith, part_room c.loop-count.invariant.0 (omega (arith, c.if-behind-eq0.false)) c.min-here.ensures)

pub sum_of-sum-requires : goal.sum_of-sum-requires
sum_of-sum-requires c = part_short c.loop-count.invariant.0 (omega (
  arith,
  c.if-behind-eq0.false,
)) c.min-here.ensures c.requires.1

pub overflow_add-sum : goal.overflow_add-sum
overflow_add-sum c = omega (
  arith,
  c.loop-count.invariant.0.small,
  c.loop-count.invariant.0.few,
  c.requires.1,
  c.sum_of-sum.ensures.upper_bound,
  part_short c.loop-count.invariant.0 (omega (
    arith,
    c.if-behind-eq0.false,
  )) c.min-here.ensures c.requires.1,
)

pub overflow_add-count : goal.overflow_add-count
overflow_add-count c = omega (
  arith,
  part_room c.loop-count.invariant.0 (omega (
    arith,
    c.if-behind-eq0.false,
  )) c.min-here.ensures,
  c.requires.1,
)

pub go_on-behind-requires : goal.go_on-behind-requires
go_on-behind-requires c = let room = part_room c.loop-count.invariant.0 (omega (
  arith,
  c.if-behind-eq0.false,
)) c.min-here.ensures in
    (omega (arith, c.if-behind-eq0.false), room.1)

pub loop-count-smaller : goal.loop-count-smaller
loop-count-smaller c = omega (
  arith,
  c.loop-count-test.true,
  (part_room c.loop-count.invariant.0 (omega (arith, c.if-behind-eq0.false)) c.min-here.ensures).4 c.loop-count-test.true,
)

pub loop-count-preserved : goal.loop-count-preserved
loop-count-preserved c = (
  let room = part_room c.loop-count.invariant.0 (omega (arith, c.if-behind-eq0.false)) c.min-here.ensures in
      fetch_next c.loop-count.invariant.0 (omega (arith, c.if-behind-eq0.false)) _ room.1 (omega (arith, room.2)) room.3 c.go_on-behind.result c.lay_part.auto.buffer c.lay_part.ensures
      c.sum_of-sum.ensures.value c.sum_of-sum.ensures.upper_bound c.go_on-behind.ensures.bytes,
  (c.go_on-behind.ensures.image.0 ∙ c.loop-count.invariant.1.0, c.go_on-behind.ensures.image.1 ∙ c.loop-count.invariant.1.1),
)

pub shape_of-buffer : goal.shape_of-buffer
shape_of-buffer c = c.loop-count.invariant.0.long

pub returns-clause-bytes : goal.returns-clause-bytes
returns-clause-bytes c = fetch_all c.loop-count.invariant.0 c.loop-count-test.false
