-- Rests on `RemainingReading`: what the rest of the characters says behind the number so far is what all say; above the largest it stays none.
use mathlib.Core.Path.{sym, ◌∙◌}
use native.Mathlib.Omega.{arith}
use Rattle.numerals.proofs.RemainingReading.{from_nothing, from_large, from_digit, from_low, from_high, from_end}
use Rattle.numerals.proofs.read_number.Goals as goal
use Rattle.numerals.proofs.read_number.Goals.{then-character-lt48-via-then-character-lt48, then-character-lt48-via-else-character-lt48+then-base-character}

pub loop-character-init : goal.loop-character-init
loop-character-init c = (omega arith, from_nothing _ _)

pub returns-then-character-lt48 : goal.returns-then-character-lt48
returns-then-character-lt48 c =
    elim c.then-character-lt48.branch [
      | then-character-lt48-via-then-character-lt48 w ↦
          sym (c.loop-character.invariant.1 ∙ from_low _ _ _ _ c.loop-character-test.true w.if-character-lt48.true)
      | then-character-lt48-via-else-character-lt48+then-base-character w ↦
          sym (c.loop-character.invariant.1 ∙ from_high _ _ _ _ c.loop-character-test.true w.if-base-character.true)
    ]

pub returns-then-number-gt-LARGEST : goal.returns-then-number-gt-LARGEST
returns-then-number-gt-LARGEST c =
    sym (c.loop-character.invariant.1
    ∙ from_digit _ _ _ _ c.loop-character-test.true c.if-character-lt48.false c.if-base-character.false
    ∙ from_large _ _ _ c.requires.0 c.if-number-gt-LARGEST.true)

pub loop-character-preserved : goal.loop-character-preserved
loop-character-preserved c = (
  c.if-number-gt-LARGEST.false,
  c.loop-character.invariant.1 ∙ from_digit _ _ _ _ c.loop-character-test.true c.if-character-lt48.false c.if-base-character.false,
)

pub returns : goal.returns
returns c = sym (c.loop-character.invariant.1 ∙ from_end _ _ _ _ c.loop-character-test.false c.loop-character.invariant.0)
