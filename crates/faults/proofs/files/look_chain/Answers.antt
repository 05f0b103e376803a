-- Rests on `LookedFile`: the first block of a chain is a body.
use Rattle.faults.proofs.LookedFile.{no_body, told_first}
use Rattle.faults.proofs.files.look_chain.Goals as goal

pub returns-then-not-is_body : goal.returns-then-not-is_body
returns-then-not-is_body c = told_first c.requires.here.0 c.requires.kind_value c.if-x-eq0.false (no_body c.is_body.ensures c.if-not-is_body.true)
