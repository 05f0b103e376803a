-- Rests on `LineWriteCounted`: what was counted so far, and what is left; two bytes for each character fit a number.
use mathlib.Core.Path.{◌≡◌, ◌∙◌}
use native.Mathlib.Omega.{arith}
use Rattle.std.specs.Slice.Iter.{chunks_size}
use Rattle.lines.proofs.LineWriteCounted.{parts_much, parts_on, parts_done}
use Rattle.lines.proofs.counting.count_puts.Goals as goal

pub overflow_add-puts : goal.overflow_add-puts
overflow_add-puts c = omega
    (arith, parts_much c.args.text.now _ _ c.loop-part.invariant.3 _ _ c.in-Some.ensures.steps.1.0 c.count_part.ensures, c.well_formed.0.1)

pub loop-part-preserved : goal.loop-part-preserved
loop-part-preserved c =
    let size : chunks_size c.next.new.self ≡ 96 = c.in-Some.ensures.steps.0 ∙ c.loop-part.invariant.2 in
    (omega (arith, size), tt, size, parts_on c.args.text.now _ _ c.loop-part.invariant.3 _ _ c.in-Some.ensures.steps.1.0 c.count_part.ensures)

pub returns : goal.returns
returns c = parts_done c.args.text.now _ _ c.loop-part.invariant.3 c.in-None.ensures.steps.1.0
