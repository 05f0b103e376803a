-- Rests on `sought_find` and `LookedFields`: the first word that is not 0.
use borrow.Author.Rules.{rules}
use mathlib.Core.Path.{◌≡◌, refl}
use native.Mathlib.Omega.{arith}
use Rattle.std.proofs.Common.{tests}
use Rattle.std.proofs.lemmas.Iterator.{serves_from_Range}
use Rattle.pack.specs.Entry.{entry_word}
use Rattle.faults.specs.Looking.{FieldRight}
use Rattle.faults.proofs.FirstSought.{sought_find}
use Rattle.faults.proofs.LookedFields.{zero_wrong, zero_right}
use Rattle.faults.proofs.fields.wrong_zero.Goals as goal

pub find-requires : goal.find-requires
find-requires c = record { can = tt; finite = tt; callable = serves_from_Range (λ w q k. search (rules, tests)) (λ w low high. search rules) }

pub returns : goal.returns
returns c = λ x.
    let word = entry_word c.args.view.img.now c.args.view.g c.args.e in
    sought_find (FieldRight c.args.view.img.now c.args.e x) (omega arith) _ _ c.find.ensures.ran
    (λ w q k low. let some : word w ≡ 0 → ⊥ = grind (arith, tests) in zero_wrong _ c.requires.0.is x _ low refl some)
    (λ w q k. (search rules, λ low. let nil : word w ≡ 0 = grind (arith, tests) in zero_right _ c.requires.0.is x _ low refl nil))
