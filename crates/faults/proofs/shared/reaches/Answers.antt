-- Rests on `Seeking` of `LookedShared`: the blocks that are left decide.
use native.Mathlib.Omega.{arith}
use Rattle.pack.specs.File.{blocks_of}
use Rattle.faults.proofs.LookedShared.{seeking_start, seeking_block, seeking_found, seeking_next, seeking_end}
use Rattle.faults.proofs.shared.reaches.Goals as goal

pub loop-init : goal.loop-init
loop-init c = seeking_start _ _ c.args.x _ c.requires.by_index

pub returns-then-b-sought : goal.returns-then-b-sought
unfolding blocks_of
returns-then-b-sought c = seeking_found c.loop.invariant (omega (arith, c.loop-test.true)) c.if-b-sought.true

pub next_block-b-requires : goal.next_block-b-requires
next_block-b-requires c = record { b_lt_blocks = seeking_block c.loop.invariant (omega (arith, c.loop-test.true)) }

pub loop-preserved : goal.loop-preserved
loop-preserved c = seeking_next c.loop.invariant (omega (arith, c.loop-test.true)) c.if-b-sought.false c.next_block-b.ensures.result_value
    (omega (arith, c.loop-test.true))

pub returns : goal.returns
unfolding blocks_of
returns c = seeking_end c.loop.invariant (omega (arith, c.loop-test.false))
