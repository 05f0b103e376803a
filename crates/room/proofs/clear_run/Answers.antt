-- Rests on `ClearedRun`: all blocks before this one are cleared and marked, it is still free, and with it one more is.
use mathlib.Core.Path.{refl, ◌∙◌}
use native.Mathlib.Omega.{arith}
use Rattle.room.proofs.ClearedRun.{taking_start, taking_ready, taking_next, taking_end}
use Rattle.room.proofs.clear_run.Goals as goal

pub loop-b-init : goal.loop-b-init
loop-b-init c = (refl, refl, taking_start _ _ c.requires.sized c.requires.blocks_in_bounds.1)

pub clear_block-requires : goal.clear_block-requires
clear_block-requires c = let both = taking_ready _ _ c.requires.sized c.requires.blocks_in_bounds.1 c.loop-b.invariant.2 (omega (arith, c.loop-b-test.true))
    c.requires.by_index c.requires.blocks_in_bounds.0 in
    record { sized = both.0; blocks_in_bounds = both.1 }

pub loop-b-preserved : goal.loop-b-preserved
loop-b-preserved c = (
  c.clear_block.auto.img ∙ c.loop-b.invariant.0,
  c.clear_block.auto.map ∙ c.loop-b.invariant.1,
  taking_next _ _ c.requires.sized c.requires.blocks_in_bounds.1 c.loop-b.invariant.2 (omega (arith, c.loop-b-test.true)) c.clear_block.ensures.img_after c.clear_block.ensures.map_after,
)

pub returns : goal.returns
returns c = let both = taking_end _ _ c.requires.sized c.requires.blocks_in_bounds.1 c.loop-b.invariant.2 (omega (arith, c.loop-b-test.false)) in
    record { img_after = both.0; map_after = both.1 }
