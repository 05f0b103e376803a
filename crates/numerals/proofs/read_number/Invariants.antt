-- What the loop of `read_number` keeps from turn to turn.
use mathlib.Core.Path.{◌≡◌}
use Prim.Native.Nat.{◌≤◌}
use lib.ListN.{drop}
use Rattle.numerals.specs.Digits.{largest, number_of}
use Rattle.numerals.specs.Remaining.{number_from}
use Rattle.numerals.proofs.read_number.Given as goal

abbrev pub invariant-loop-character : goal.invariant-loop-character
invariant-loop-character l = (l.number ≤ largest) × (number_of l.base l.characters ≡ number_from l.base l.number (drop l.character-index l.characters))
