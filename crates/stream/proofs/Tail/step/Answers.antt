-- Rests on `SpotSteps`: the byte behind is of the same payload, or the first of the next block's.
use Rattle.stream.proofs.SpotSteps.{first_below, rest_chained, step_within, step_over}
use Rattle.stream.proofs.Tail.step.Goals as goal

pub returns-then-at-spot-clause-bytes : goal.returns-then-at-spot-clause-bytes
returns-then-at-spot-clause-bytes c = (step_within c.args.self.standing c.requires c.if-at-spot.true).0

pub next_block-requires : goal.next_block-requires
next_block-requires c = record { b_lt_blocks = first_below c.args.self.standing.chained c.requires }

pub enter-requires-clause-chained : goal.enter-requires-clause-chained
enter-requires-clause-chained c = rest_chained c.args.self.standing.chained c.requires _ c.next_block.ensures.result_value

pub returns-clause-bytes : goal.returns-clause-bytes
returns-clause-bytes c = step_over c.args.self.standing c.requires c.if-at-spot.false _ c.next_block.ensures.result_value _ c.enter.ensures.bytes
