-- Rests on `sought_find` and `LookedHeader`: the first word that is not 0.
use borrow.Author.Rules.{rules}
use mathlib.Core.Path.{◌≡◌, refl}
use native.Mathlib.Omega.{arith}
use Rattle.std.proofs.Common.{tests}
use Rattle.words.specs.Word.{word_at}
use Rattle.faults.specs.Rules.{RightWord}
use Rattle.faults.proofs.FirstSought.{sought_find}
use Rattle.faults.proofs.LookedHeader.{rest_wrong, rest_right}
use Rattle.faults.proofs.headers.wrong_rest.Goals as goal

pub returns : goal.returns
returns c =
    let img = c.args.img.now in
    sought_find (RightWord img) c.requires.0 _ _ c.find.ensures.ran
    (λ w q k low. let some : word_at img w ≡ 0 → ⊥ = grind (arith, tests) in rest_wrong img low c.requires.2 refl some)
    (λ w q k. (search rules, λ low. let nil : word_at img w ≡ 0 = grind (arith, tests) in rest_right img low c.requires.2 refl nil))
