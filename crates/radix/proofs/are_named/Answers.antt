-- Rests on `NamesTestFilled`: the bits of each number of the table are the pairs of letters and digits, which antt computes from the characters' table.
use mathlib.Core.Path.{refl, ◌∙◌}
use Rattle.radix.specs.Characters.{table, character_of}
use Rattle.radix.specs.declared.TheConstants.{NAMED_PAIRS}
use Rattle.radix.specs.NamesTest.{pair_named}
use Rattle.radix.proofs.NamesTestFilled.{pair_in}
use Rattle.radix.proofs.are_named.Goals as goal

pub returns : goal.returns
unfolding pair_named character_of table
returns c = c.bit.ensures ∙ pair_in NAMED_PAIRS _ c.requires refl refl
