-- What the loop of `is_distinct` keeps from turn to turn: the words from here on decide for all.
use Prim.Native.Nat.{ℕ, ◌+◌}
use mathlib.Core.Path.{◌≡◌}
use Rattle.pack.specs.HeaderTest.{distinct}
use Rattle.pack.proofs.headers.is_distinct.Given as goal

abbrev pub invariant-loop-at : goal.invariant-loop-at
invariant-loop-at l = (left : ℕ) → l.at + left ≡ l.from + l.count → distinct l.img l.from l.count ≡ distinct l.img l.at left
