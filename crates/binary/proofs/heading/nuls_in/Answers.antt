-- Rests on `NulsSkipped`: before the place of the first other byte there are NULs alone, or in all the part.
use mathlib.Core.Path.{◌≡◌, ◌∙◌}
use mathlib.Core.Bool.{not}
use native.Mathlib.Omega.{arith}
use borrow.Author.Tests.{tests}
use lib.Dec.{eqb}
use Rattle.std.proofs.Common.{rules}
use Rattle.std.proofs.lemmas.Iterator.{YieldsList-from_slice}
use Rattle.std.proofs.lemmas.Iterator.Search.{position_from_yields_List}
use Rattle.binary.specs.BinaryRead.{nuls_before}
use Rattle.binary.proofs.BinaryProgress.{nuls_most}
use Rattle.binary.proofs.NulsSkipped.{nuls_found}
use Rattle.binary.proofs.heading.nuls_in.Goals as goal

pub returns : goal.returns
returns c =
    let found = position_from_yields_List (λ x. not (eqb x 0)) _ _ _ c.position.ensures.ran (YieldsList-from_slice c.args.part.now cc) (λ x b q k. search (rules, tests)) in
    let value : c.unwrap_or.result ≡ nuls_before c.args.part.now = c.unwrap_or.ensures ∙ nuls_found c.args.part.now found in
    record { value = value; upper_bound = omega (arith, value, nuls_most c.args.part.now) }
