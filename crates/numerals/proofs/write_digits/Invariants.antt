-- What the loop of `write_digits` keeps from turn to turn.
use mathlib.Core.Path.{◌≡◌}
use lib.ListN.{length}
use Rattle.numerals.specs.Digits.{digits}
use Rattle.numerals.specs.Remaining.{due}
use Rattle.numerals.proofs.write_digits.Given as goal

abbrev pub invariant-loop-place : goal.invariant-loop-place
invariant-loop-place l = (length l.characters ≡ length l.initial.characters)
    × (due l.base l.place l.rest l.characters ≡ digits l.base (length l.initial.characters) l.number)
