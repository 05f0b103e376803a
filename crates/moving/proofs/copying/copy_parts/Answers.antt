-- Rests on `CopiedRuns`: a part more.
use Prim.Native.Nat.{◌+◌}
use mathlib.Core.Path.{refl, ◌∙◌}
use native.Mathlib.Omega.{arith}
use Rattle.moving.proofs.CopiedRuns.{part_lengths, run_none, run_part, run_end}
use Rattle.moving.proofs.copying.copy_parts.Goals as goal

pub loop-done-init : goal.loop-done-init
loop-done-init c = (run_none, omega arith, refl)

pub overflow_add-start : goal.overflow_add-start
overflow_add-start c = omega (arith, c.requires.0, c.loop-done-test.true)

pub overflow_add-end : goal.overflow_add-end
overflow_add-end c = omega (arith, c.requires.0, c.loop-done-test.true, c.least-size.ensures.0)

pub overflow_add-place : goal.overflow_add-place
overflow_add-place c = omega (arith, c.requires.1, c.loop-done-test.true)

pub overflow_add-behind : goal.overflow_add-behind
overflow_add-behind c = omega (arith, c.requires.1, c.loop-done-test.true, c.least-size.ensures.0)

pub slice_bounds-copy_part-end : goal.slice_bounds-copy_part-end
slice_bounds-copy_part-end c = omega (arith, c.requires.1, c.loop-done-test.true, c.least-size.ensures.0, c.loop-done.invariant.0.long)

pub copy_part-requires : goal.copy_part-requires
copy_part-requires c = part_lengths c.args.source.now c.loop-done.target (c.args.from + c.loop-done.done) (c.args.to + c.loop-done.done) c.least-size.result
    (omega (arith, c.requires.0, c.loop-done-test.true, c.least-size.ensures.0))
    (omega (arith, c.requires.1, c.loop-done-test.true, c.least-size.ensures.0, c.loop-done.invariant.0.long)) (omega (arith, c.least-size.ensures.1))

pub overflow_add-done : goal.overflow_add-done
overflow_add-done c = omega (arith, c.requires.0, c.loop-done-test.true, c.least-size.ensures.0)

pub loop-done-smaller : goal.loop-done-smaller
loop-done-smaller c = omega (arith, c.loop-done-test.true, c.least-size.ensures.0, c.least-size.ensures.2 (omega arith) (omega (arith, c.requires.2, c.loop-done.invariant.2)))

pub loop-done-preserved : goal.loop-done-preserved
loop-done-preserved c = (
  run_part c.least-size.result c.loop-done.invariant.0 (omega (arith, c.requires.1, c.loop-done-test.true, c.least-size.ensures.0))
      (omega (arith, c.requires.0, c.loop-done-test.true, c.least-size.ensures.0)) c.copy_part.ensures,
  omega (arith, c.loop-done-test.true, c.least-size.ensures.0),
  c.copy_part.auto.between ∙ c.loop-done.invariant.2,
)

pub returns : goal.returns
returns c = run_end c.loop-done.invariant.0 c.loop-done.invariant.1 c.loop-done-test.false
