-- Rests on `SpotSteps`: what is still to pass behind the blocks passed leads to the same bytes, and no more blocks are passed than there are.
use Prim.Native.Nat.{ℕ, ◌-◌}
use mathlib.Core.Path.{ap}
use Rattle.stream.proofs.SpotSteps.{linked_chained, seek_start, seek_below, seek_next, located}
use Rattle.stream.proofs.reading.locate.Goals as goal

pub loop-offset-init : goal.loop-offset-init
loop-offset-init c = seek_start (linked_chained c.args.x c.args.view.sized c.requires.by_index c.requires.kind_value.0) _ c.requires.kind_value.1

pub next_block-block-requires : goal.next_block-block-requires
next_block-block-requires c = let read = ap (λ (n : ℕ). n - 2) c.bytes-payload.ensures in
    record { b_lt_blocks = seek_below c.loop-offset.invariant read c.loop-offset-test.true }

pub loop-offset-preserved : goal.loop-offset-preserved
loop-offset-preserved c = let read = ap (λ (n : ℕ). n - 2) c.bytes-payload.ensures in
    seek_next c.loop-offset.invariant read c.loop-offset-test.true _ c.next_block-block.ensures.result_value

pub returns-clause-bytes : goal.returns-clause-bytes
returns-clause-bytes c = located c.args.x c.args.position c.requires.kind_value.0 c.loop-offset.invariant _ c.enter.ensures.bytes
