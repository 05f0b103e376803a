-- Rests on `WalkSteps`: the blocks that are left of a run decide.
use Rattle.consistency.proofs.WalkSteps.{running_on, running_stops, running_ends}
use Rattle.consistency.proofs.walking.take_run.Goals as goal

pub returns-then-map-b-ne0 : goal.returns-then-map-b-ne0
returns-then-map-b-ne0 c = running_stops c.loop-b.invariant c.loop-b-test.true c.if-map-b-ne0.true

pub loop-b-preserved : goal.loop-b-preserved
loop-b-preserved c = running_on c.loop-b.invariant c.loop-b-test.true c.if-map-b-ne0.false

pub returns : goal.returns
returns c = running_ends c.loop-b.invariant c.loop-b-test.false
