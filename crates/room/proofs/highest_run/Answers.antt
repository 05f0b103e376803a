-- Rests on `RoomMapRun`: the count is that of the free blocks from here on, so the first start where it comes to the length is the highest.
use Prim.Native.Nat.{◌-◌}
use mathlib.Core.Path.{sym, ◌∙◌}
use native.Mathlib.Omega.{arith}
use Rattle.room.proofs.RoomMapRun.{from_most, from_held, from_down, after_short, run_here, run_next, run_end, run_held}
use Rattle.room.proofs.highest_run.Goals as goal

pub loop-b-init : goal.loop-b-init
loop-b-init c = (omega arith, c.requires.2, λ end held. (from_held _ _ _ held, run_held _ _ _ _ held c.requires.2))

pub free_after-free-requires : goal.free_after-free-requires
free_after-free-requires c = omega (
  arith,
  (c.loop-b.invariant.2 c.args.g.blocks c.skip_held-b.ensures).0,
  from_most c.args.map.now c.loop-b.b (c.args.g.blocks - c.loop-b.b),
  c.requires.1,
)

pub returns-then-free-count : goal.returns-then-free-count
returns-then-free-count c = let so_far = c.loop-b.invariant.2 _ c.skip_held-b.ensures in
    sym (so_far.1 ∙ run_here _ _ _ _ _ _ c.loop-b-test.true
    (from_down _ _ _ _ _ (omega (arith, c.loop-b-test.true)) (omega (arith, c.loop-b.invariant.0, c.skip_held-b.ensures.within)) so_far.0 c.free_after-free.ensures)
    c.if-free-count.true)

pub loop-b-preserved : goal.loop-b-preserved
loop-b-preserved c = let short = after_short _ _ _ _ c.free_after-free.ensures c.loop-b.invariant.1 c.if-free-count.false in (
  omega (arith, c.loop-b.invariant.0),
  short,
  λ end held.
      let so_far = c.loop-b.invariant.2 end held in
      let counted = from_down _ _ _ _ _ (omega (arith, c.loop-b-test.true)) (omega (arith, c.loop-b.invariant.0, held.within)) so_far.0 c.free_after-free.ensures in
      (counted, so_far.1 ∙ run_next _ _ _ _ _ _ c.loop-b-test.true counted short),
)

pub returns : goal.returns
returns c = sym ((c.loop-b.invariant.2 _ c.skip_held-b.ensures).1 ∙ run_end _ _ _ _ _ c.loop-b-test.false c.requires.2)
