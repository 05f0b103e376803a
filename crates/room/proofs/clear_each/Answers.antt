-- Rests on `Freeing` of `MapMarking`: the bits that are left make what is left of all, and the links that lead on are as they were.
use Prim.Native.Nat.{◌-◌}
use mathlib.Core.Path.{◌≡◌}
use native.Mathlib.Omega.{arith}
use Rattle.pack.specs.File.{blocks_of}
use Rattle.room.proofs.MapMarking.{freeing_start, freeing_block, freeing_sized, freeing_next, freeing_end}
use Rattle.room.proofs.clear_each.Goals as goal

pub loop-init : goal.loop-init
loop-init c = let all : c.args.x.length - 0 ≡ c.args.x.length = omega arith in
    rw all (freeing_start c.args.x c.requires.sized c.requires.by_index)

pub set_bit-requires : goal.set_bit-requires
set_bit-requires c = record { sized = c.loop.invariant.sized; b_lt_blocks = ((freeing_block c.loop.invariant (omega (arith, c.loop-test.true))).1, omega arith) }

pub invariant_of-next_block : goal.invariant_of-next_block
invariant_of-next_block c = record { sized = freeing_sized c.loop.invariant (omega (arith, c.loop-test.true)) c.set_bit.ensures }

pub next_block-b-requires : goal.next_block-b-requires
next_block-b-requires c = record { b_lt_blocks = (freeing_block c.loop.invariant (omega (arith, c.loop-test.true))).1 }

pub loop-preserved : goal.loop-preserved
loop-preserved c = freeing_next c.loop.invariant (omega (arith, c.loop-test.true)) c.set_bit.ensures _ c.next_block-b.ensures.result_value (omega arith)

pub returns : goal.returns
unfolding blocks_of
returns c = freeing_end c.loop.invariant (omega (arith, c.loop-test.false))
