-- What the loop of `are_words_zero` keeps from turn to turn: what is found, and the words from here on, decide for all.
use Prim.Native.Nat.{ℕ, ◌+◌}
use mathlib.Core.Path.{◌≡◌}
use mathlib.Core.Bool.{◌&&◌}
use Rattle.pack.specs.HeaderTest.{zeros}
use Rattle.pack.proofs.headers.are_words_zero.Given as goal

abbrev pub invariant-loop-at : goal.invariant-loop-at
invariant-loop-at l = (left : ℕ) → l.at + left ≡ l.from + l.count → zeros l.img l.from l.count ≡ (l.clear && zeros l.img l.at left)
