-- What the loop of `is_stretch_zero` keeps from turn to turn: what is found, and the words from here on, decide for all.
use Prim.Native.Nat.{ℕ, ◌+◌}
use mathlib.Core.Path.{◌≡◌}
use mathlib.Core.Bool.{◌&&◌}
use lib.Dec.{eqb}
use Rattle.pack.specs.HeaderTest.{zeros}
use Rattle.pack.proofs.headers.is_stretch_zero.Given as goal

abbrev pub invariant-loop-at : goal.invariant-loop-at
invariant-loop-at l = (left : ℕ) → l.at + left ≡ l.from + l.count → zeros l.img l.from l.count ≡ (eqb l.laid 0 && zeros l.img l.at left)
