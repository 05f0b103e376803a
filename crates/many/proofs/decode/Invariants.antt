-- What the loop of `decode` keeps from turn to turn.
use Prim.Native.Nat.{◌≤◌}
use mathlib.Core.Path.{◌≡◌}
use lib.ListN.{length, take}
use Rattle.many.specs.Layout.{records_in}
use Rattle.many.proofs.decode.Given as goal

abbrev pub invariant-loop-i : goal.invariant-loop-i
invariant-loop-i l = (l.i ≤ l.count) × ((length l.list ≡ 64) × (take l.i l.list ≡ records_in l.bytes l.i))
