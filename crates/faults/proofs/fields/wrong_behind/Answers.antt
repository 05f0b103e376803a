-- Rests on `FirstSought`: one search behind another.
use native.Mathlib.Omega.{arith}
use Rattle.faults.proofs.FirstSought.{sought_short, sought_then}
use Rattle.faults.proofs.fields.wrong_behind.Goals as goal

pub returns-in-Some : goal.returns-in-Some
returns-in-Some c = sought_short (c.in-Some.ensures _ _) (omega arith)

pub returns : goal.returns
returns c = sought_then _ _ (c.in_default.ensures _ _) (c.wrong_zero.ensures _)
