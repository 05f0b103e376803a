-- Rests on `SpotPayload`: the byte behind the last of a payload is the first of the next one, if there is one.
use Rattle.stream.proofs.SpotPayload.{behind_last}
use Rattle.stream.proofs.Tail.next_payload.Goals as goal

pub returns-clause-bytes : goal.returns-clause-bytes
returns-clause-bytes c = behind_last c.args.self.standing c.requires _ c.step.ensures.bytes
