-- Rests on `Giving` of `RoomMapGiven`: giving up the blocks that are left is what is left of giving up all, and each has a place on the map.
use Prim.Native.Nat.{◌-◌}
use mathlib.Core.Path.{◌≡◌, refl, ◌∙◌}
use native.Mathlib.Omega.{arith}
use Rattle.pack.specs.File.{blocks_of}
use Rattle.room.proofs.RoomMapGiven.{giving_start, giving_block, giving_next, giving_end}
use Rattle.room.proofs.give_up.Goals as goal

pub loop-init : goal.loop-init
loop-init c = let all : c.args.x.length - 0 ≡ c.args.x.length = omega arith in
    rw all (refl, giving_start c.args.x c.requires.by_index c.requires.blocks_in_bounds)

pub give_up_block-requires : goal.give_up_block-requires
give_up_block-requires c = omega (arith, giving_block c.loop.invariant.1 (omega (arith, c.loop-test.true)), c.loop.invariant.1.long)

pub next_block-b-requires : goal.next_block-b-requires
next_block-b-requires c = record { b_lt_blocks = giving_block c.loop.invariant.1 (omega (arith, c.loop-test.true)) }

pub loop-preserved : goal.loop-preserved
loop-preserved c = (
  c.give_up_block.auto.map ∙ c.loop.invariant.0,
  giving_next c.loop.invariant.1 (omega (arith, c.loop-test.true)) _ c.give_up_block.ensures _ c.next_block-b.ensures.result_value (omega arith),
)

pub returns : goal.returns
unfolding blocks_of
returns c = giving_end c.loop.invariant.1 (omega (arith, c.loop-test.false))
