-- Rests on `NamesTestFilled`: the bits of the number are the codes of letters, digits and the blank, which antt computes from the table.
use mathlib.Core.Path.{refl, ◌∙◌}
use Rattle.radix.specs.Characters.{table, character_of}
use Rattle.radix.proofs.NamesTestFilled.{bit_at, ending_code}
use Rattle.radix.proofs.is_ending.Goals as goal

pub returns : goal.returns
unfolding character_of table
returns c = c.bit.ensures ∙ bit_at ending_code _ 64 _ refl c.requires
