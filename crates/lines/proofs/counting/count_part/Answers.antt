-- Rests on `LineWriteCounted`: what was counted so far, and what is left; two bytes for each character fit a byte.
use native.Mathlib.Omega.{arith}
use Rattle.lines.proofs.LineWriteCounted.{counting_start, counting_finished, counting_few, counting_next}
use Rattle.lines.proofs.counting.count_part.Goals as goal

pub loop-character-init : goal.loop-character-init
loop-character-init c = counting_start

pub overflow_add-puts : goal.overflow_add-puts
overflow_add-puts c = omega
    (arith, counting_few c.loop-character.invariant c.loop-character-test.true c.put_length-puts.ensures, c.requires)

pub loop-character-preserved : goal.loop-character-preserved
loop-character-preserved c = counting_next c.loop-character.invariant c.loop-character-test.true c.put_length-puts.ensures

pub returns : goal.returns
returns c = counting_finished c.loop-character.invariant c.loop-character-test.false
