-- Rests on `RoomMapCount`: whether what is left is free among the blocks from here on decides whether all that is needed is free.
use mathlib.Core.Path.{sym, ◌∙◌}
use Rattle.answers.specs.Refusals.{code_of}
use Rattle.room.proofs.RoomMapCount.{enough_seen, enough_step, enough_pass, enough_never, judged_enough, judged_short}
use Rattle.room.proofs.judge_room.Goals as goal
use Rattle.room.proofs.judge_room.Goals.{then-map-b-eq0, else-map-b-eq0}

pub returns-then-left-eq0 : goal.returns-then-left-eq0
returns-then-left-eq0 c = judged_enough c.args.needed.0 _ (c.loop-b.invariant ∙ sym (enough_seen _ _ _ _ c.if-left-eq0.true))

pub loop-b-preserved : goal.loop-b-preserved
loop-b-preserved c = c.loop-b.invariant
    ∙ elim c.if-map-b-eq0.branch [
      | then-map-b-eq0 w ↦ enough_step _ _ _ _ c.loop-b-test.true c.if-left-eq0.false w.if-map-b-eq0.true _ w.left-is
      | else-map-b-eq0 w ↦ enough_pass _ _ _ _ c.loop-b-test.true w.if-map-b-eq0.false _ w.left-is
    ]

pub returns-then-left-eq0-2 : goal.returns-then-left-eq0-2
returns-then-left-eq0-2 c = judged_enough c.args.needed.0 _ (c.loop-b.invariant ∙ sym (enough_seen _ _ _ _ c.if-left-eq0-2.true))

pub returns : goal.returns
unfolding code_of
returns c = judged_short c.args.needed.0 _ (c.loop-b.invariant ∙ sym (enough_never _ _ _ _ c.loop-b-test.false c.if-left-eq0-2.false))
