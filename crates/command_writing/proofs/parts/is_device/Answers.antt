-- Rests on `NameTests`: letters have the codes 1 to 26, and a word's codes are those of its characters.
use mathlib.Core.Path.{refl}
use borrow.Author.Tests.{eq-eqb}
use Rattle.command_writing.proofs.NameTests.{holds, fails, decides, refuted, not_first, not_second, not_third, letters_two, letters_three}
use Rattle.command_writing.proofs.parts.is_device.Goals as goal

pub returns-then-not-is_letter_code : goal.returns-then-not-is_letter_code
returns-then-not-is_letter_code c = fails refl (not_first c.first.ensures (refuted c.is_letter_code.ensures c.if-not-is_letter_code.true))

pub returns-then-not-is_letter_code-2 : goal.returns-then-not-is_letter_code-2
returns-then-not-is_letter_code-2 c = fails refl (not_second c.second.ensures (refuted c.is_letter_code-2.ensures c.if-not-is_letter_code-2.true))

pub returns-then-third-eq0 : goal.returns-then-third-eq0
returns-then-third-eq0 c = let a = c.is_letter_code.ensures.0 c.if-not-is_letter_code.false in
    let b = c.is_letter_code-2.ensures.0 c.if-not-is_letter_code-2.false in
    holds (eq-eqb _ 0 c.if-third-eq0.true) (letters_two c.first.ensures c.second.ensures c.third-third.ensures a b c.if-third-eq0.true)

pub returns-else-third-eq0 : goal.returns-else-third-eq0
returns-else-third-eq0 c = let a = c.is_letter_code.ensures.0 c.if-not-is_letter_code.false in
    let b = c.is_letter_code-2.ensures.0 c.if-not-is_letter_code-2.false in
    let third = c.is_letter_code-else-third-eq0.ensures in
    decides (λ is. letters_three c.first.ensures c.second.ensures c.third-third.ensures a b (third.0 is))
    (λ is. not_third c.third-third.ensures c.if-third-eq0.false (refuted third is))
