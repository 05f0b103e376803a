-- Rests on `HeadingRead`: a step tells the byte that stands here, and what stands behind it.
use native.Mathlib.Omega.{arith}
use Rattle.binary.proofs.HeadingRead.{word_none, word_one, word_two, first_byte}
use Rattle.binary.proofs.heading.read_word.Goals as goal

pub returns-then-start-eq0-clause-bytes : goal.returns-then-start-eq0-clause-bytes
returns-then-start-eq0-clause-bytes c = word_none c.args.start c.if-start-eq0.true

pub returns-then-next-eq0-clause-bytes : goal.returns-then-next-eq0-clause-bytes
returns-then-next-eq0-clause-bytes c = word_one c.args.start c.step-next.result c.step-next.ensures.bytes c.if-next-eq0.true

pub returns-clause-bytes : goal.returns-clause-bytes
returns-clause-bytes c =
    let low = first_byte c.step-next.ensures.bytes c.byte_at-low.ensures in
    let high = first_byte c.step-behind.ensures.bytes c.byte_at-high.ensures in
    word_two c.args.start c.step-next.result c.step-behind.result low high (omega (arith, c.byte_at-low)) (omega (arith, c.byte_at-high))
