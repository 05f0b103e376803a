-- Rests on `capped` alone: the smaller of the number and 256.
use Rattle.std.proofs.lemmas.Grind.{common_steps}
use native.Mathlib.Omega.{arith}
use Rattle.command_cursor.specs.Capped.{capped}
use Rattle.command_cursor.proofs.capped.Goals as goal

pub returns : goal.returns
unfolding capped
returns c = grind (arith, common_steps)
