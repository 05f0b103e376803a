-- Rests on `NamesTestFilled`: the bits of the number are the codes of letters and digits, which antt computes from the table.
use mathlib.Core.Path.{refl, ◌∙◌}
use Rattle.radix.specs.Characters.{table, character_of}
use Rattle.radix.proofs.NamesTestFilled.{bit_at, named_code}
use Rattle.radix.proofs.is_named.Goals as goal

pub returns : goal.returns
unfolding character_of table
returns c = c.bit.ensures ∙ bit_at named_code _ 64 _ refl c.requires
