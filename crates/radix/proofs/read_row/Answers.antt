-- Rests on `CharactersRow`: the bytes in the code are the row of the characters, which antt computes from the table.
use mathlib.Core.Path.{sym}
use native.Mathlib.Omega.{arith}
use Rattle.radix.specs.Characters.{table, character_of}
use Rattle.radix.proofs.CharactersRow.{row, row_empty, row_filled}
use Rattle.radix.proofs.read_row.Goals as goal

pub returns-in-0 : goal.returns-in-0
unfolding row table character_of
returns-in-0 c = sym (row_empty _ c.requires c.in-0.is)

pub returns-in_default : goal.returns-in_default
unfolding row table character_of
returns-in_default c = sym (row_filled _ c.requires (λ nothing. omega arith))
