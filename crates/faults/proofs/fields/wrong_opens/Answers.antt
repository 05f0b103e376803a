-- Rests on `LookedFields`: words 9 and 10, return by return.
use native.Mathlib.Omega.{arith}
use Rattle.faults.proofs.LookedFields.{opens_writer, opens_many, opens_right}
use Rattle.faults.proofs.fields.wrong_opens.Goals as goal

pub returns-then-not-is_writer_right : goal.returns-then-not-is_writer_right
returns-then-not-is_writer_right c = λ img e. (opens_writer img _ e c.is_writer_right.ensures c.if-not-is_writer_right.true, omega arith)

pub returns-then-not-is_few_opens : goal.returns-then-not-is_few_opens
returns-then-not-is_few_opens c = λ img e. (
  opens_many img _ e c.is_writer_right.ensures c.if-not-is_writer_right.false c.is_few_opens.ensures c.if-not-is_few_opens.true,
  omega arith,
)

pub returns : goal.returns
returns c = λ img e. opens_right img _ e c.is_writer_right.ensures c.if-not-is_writer_right.false
    c.is_few_opens.ensures c.if-not-is_few_opens.false
