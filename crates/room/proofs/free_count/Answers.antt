-- Rests on `RoomMapCount`: the count so far and the free blocks that are left make up all of them, and these are no more than the blocks.
use Prim.Native.Nat.{◌-◌}
use native.Mathlib.Omega.{arith}
use Rattle.room.proofs.RoomMapCount.{free_step_to, free_pass_to, free_end_at, free_most}
use Rattle.room.proofs.free_count.Goals as goal
use Rattle.room.proofs.free_count.Goals.{then-map-b-eq0, else-map-b-eq0}

pub overflow_add-free : goal.overflow_add-free
overflow_add-free c = omega (
  arith,
  free_step_to c.args.map.now c.loop-b.b c.args.g.blocks c.loop-b-test.true c.if-map-b-eq0.true,
  free_most c.args.map.now c.args.g.bodies.0 (c.args.g.blocks - c.args.g.bodies.0),
)

pub loop-b-preserved : goal.loop-b-preserved
loop-b-preserved c = elim c.if-map-b-eq0.branch [
  | then-map-b-eq0 w ↦ omega (arith, w.free-is, free_step_to c.args.map.now c.loop-b.b c.args.g.blocks c.loop-b-test.true w.if-map-b-eq0.true)
  | else-map-b-eq0 w ↦ omega (arith, w.free-is, free_pass_to c.args.map.now c.loop-b.b c.args.g.blocks c.loop-b-test.true w.if-map-b-eq0.false)
]

pub returns : goal.returns
returns c = omega (arith, free_end_at c.args.map.now c.loop-b.b c.args.g.blocks c.loop-b-test.false)
