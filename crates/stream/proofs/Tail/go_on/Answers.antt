-- Rests on `SpotPayload`: so many bytes on in the same payload, or through its last.
use native.Mathlib.Omega.{arith}
use Rattle.stream.proofs.SpotPayload.{on_within, on_over}
use Rattle.stream.proofs.Tail.go_on.Goals as goal

pub returns-then-at-spot-clause-bytes : goal.returns-then-at-spot-clause-bytes
returns-then-at-spot-clause-bytes c = (on_within c.args.self.standing c.requires.0 c.args.count c.if-at-spot.true).0

pub returns-clause-bytes : goal.returns-clause-bytes
returns-clause-bytes c = on_over c.args.self.standing c.requires.0 c.args.count (omega (arith, c.if-at-spot.false, c.requires.1)) _ c.next_payload.ensures.bytes
