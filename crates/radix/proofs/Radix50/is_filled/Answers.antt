-- Rests on `NamesTestFilled`: a word by its first two codes, and by its third.
use mathlib.Core.Path.{refl, sym, ◌∙◌}
use native.Mathlib.Omega.{arith}
use Rattle.radix.proofs.NamesTestFilled.{filled_not, filled_pair}
use Rattle.radix.proofs.Radix50.is_filled.Goals as goal

pub returns-then-are_named : goal.returns-then-are_named
returns-then-are_named c = c.is_named.ensures ∙ filled_pair _ refl (omega arith) (sym c.are_named.ensures ∙ c.if-are_named.true)

pub returns-else-are_named : goal.returns-else-are_named
returns-else-are_named c = c.if-are_named.false ∙ filled_not _ refl refl (sym c.are_named.ensures ∙ c.if-are_named.false)
