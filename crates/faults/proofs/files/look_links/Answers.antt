-- Rests on `Walked` of `LookedLinks`: the marks are the blocks at the places walked; `LookedFile` tells a wrong link, a loop, and all behind.
use Prim.Native.Nat.{◌-◌}
use native.Mathlib.Omega.{arith}
use Rattle.faults.proofs.LookedLinks.{walked_start, walked_on}
use Rattle.faults.proofs.LookedFile.{no_body, told_link, told_loop, told_links}
use Rattle.faults.proofs.files.look_links.Goals as goal

pub loop-init : goal.loop-init
loop-init c = walked_start c.requires.marks_value.0 c.requires.marks_value.1 c.requires.kind_value.1 c.requires.kind_value.2

pub returns-then-not-is_body : goal.returns-then-not-is_body
returns-then-not-is_body c = told_link c.requires.here.0 c.requires.kind_value.0 c.loop.invariant
    (omega (arith, c.loop.auto.counter, c.loop-test.true)) c.next_block-next.ensures.result_value
    (no_body c.is_body.ensures c.if-not-is_body.true)

pub returns-then-marks-next-ne0 : goal.returns-then-marks-next-ne0
returns-then-marks-next-ne0 c = told_loop c.requires.here.0 c.requires.kind_value.0 c.loop.invariant
    (omega (arith, c.loop.auto.counter, c.loop-test.true)) c.next_block-next.ensures.result_value
    (c.is_body.ensures.0 c.if-not-is_body.false) c.if-marks-next-ne0.true

pub loop-preserved : goal.loop-preserved
loop-preserved c = walked_on c.requires.here.0.measures.is c.loop.invariant c.next_block-next.ensures.result_value
    (omega (arith, c.loop.auto.counter)) (omega (arith, c.loop-test.true))
    (c.is_body.ensures.0 c.if-not-is_body.false) c.if-marks-next-ne0.false

pub returns : goal.returns
returns c = told_links c.requires.here.0 c.requires.kind_value.0 c.loop.invariant (omega (arith, c.loop-test.false)) c.look_end.ensures
