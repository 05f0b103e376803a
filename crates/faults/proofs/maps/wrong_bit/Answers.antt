-- Rests on `sought_find`: the first bit that is wrong.
use borrow.Author.Rules.{rules}
use native.Mathlib.Omega.{arith}
use Rattle.std.proofs.Common.{tests}
use Rattle.faults.specs.Counting.{BitRight}
use Rattle.faults.proofs.FirstSought.{sought_find}
use Rattle.faults.proofs.maps.wrong_bit.Goals as goal

pub returns : goal.returns
returns c = sought_find (BitRight c.args.view.img.now c.args.view.g c.args.counts.now) (omega arith) _ _ c.find.ensures.ran
    (λ b q k low. grind (arith, tests))
    (λ b q k. (search rules, λ low. grind (arith, tests)))
