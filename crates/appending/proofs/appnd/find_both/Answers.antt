-- Rests on `Keys`: an entry that was found is one of the pack's.
use mathlib.Core.Path.{sym}
use native.Mathlib.Omega.{arith}
use Rattle.asking.proofs.Keys.{found_keyed}
use Rattle.appending.proofs.appnd.find_both.Goals as goal

pub read_entry-requires : goal.read_entry-requires
read_entry-requires c = record { e_bound = omega (arith, (found_keyed _ _ _ _ _ _ (sym c.in_ok-e.ensures)).high) }

pub read_entry-requires-2 : goal.read_entry-requires-2
read_entry-requires-2 c = record { e_bound = omega (arith, (found_keyed _ _ _ _ _ _ (sym c.in_ok-f.ensures)).high) }
