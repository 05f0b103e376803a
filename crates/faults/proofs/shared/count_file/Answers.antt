-- Rests on `Counting` of `LookedShared`: what is counted with the blocks that are left.
use native.Mathlib.Omega.{arith}
use Rattle.pack.specs.File.{blocks_of}
use Rattle.faults.proofs.LookedShared.{counting_start, counting_block, counting_next, counting_end}
use Rattle.faults.proofs.shared.count_file.Goals as goal

pub loop-init : goal.loop-init
loop-init c = counting_start _ _ c.args.x _ c.requires.by_index

pub bounds-counts-at : goal.bounds-counts-at
bounds-counts-at c = omega (
  arith,
  counting_block c.loop.invariant (omega (arith, c.loop-test.true)),
  c.requires.blocks_in_bounds,
  c.loop.invariant.long,
)

pub bounds-counts-at-in-loop : goal.bounds-counts-at-in-loop
bounds-counts-at-in-loop c = omega (
  arith,
  counting_block c.loop.invariant (omega (arith, c.loop-test.true)),
  c.requires.blocks_in_bounds,
  c.loop.invariant.long,
)

pub next_block-b-requires : goal.next_block-b-requires
next_block-b-requires c = record { b_lt_blocks = counting_block c.loop.invariant (omega (arith, c.loop-test.true)) }

pub loop-preserved : goal.loop-preserved
loop-preserved c = let more = counting_block c.loop.invariant (omega (arith, c.loop-test.true)) in
    counting_next c.loop.invariant (omega (arith, c.loop-test.true))
    (omega (arith, more, c.requires.blocks_in_bounds, c.loop.invariant.long))
    c.one_more.ensures c.next_block-b.ensures.result_value (omega (arith, c.loop-test.true))

pub returns : goal.returns
unfolding blocks_of
returns c = counting_end c.loop.invariant (omega (arith, c.loop-test.false))
