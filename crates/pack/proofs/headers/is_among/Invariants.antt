-- What the loop of `is_among` keeps from turn to turn: the words from here on decide for all.
use Prim.Native.Nat.{ℕ, ◌+◌}
use mathlib.Core.Path.{◌≡◌}
use Rattle.pack.specs.HeaderTest.{among}
use Rattle.pack.proofs.headers.is_among.Given as goal

abbrev pub invariant-loop-at : goal.invariant-loop-at
invariant-loop-at l = (left : ℕ) → l.at + left ≡ l.from + l.count → among l.img l.word l.from l.count ≡ among l.img l.word l.at left
