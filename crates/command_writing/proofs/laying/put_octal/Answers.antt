-- Rests on `LaidNames`: the digits are one, two or three by the number's size.
use Rattle.command_writing.proofs.LaidNames.{octal_one, octal_two, octal_three}
use Rattle.command_writing.proofs.laying.put_octal.Goals as goal

pub returns-then-number-lt8 : goal.returns-then-number-lt8
returns-then-number-lt8 c = octal_one c.if-number-lt8.true c.put_digit.ensures

pub returns-then-number-lt64 : goal.returns-then-number-lt64
returns-then-number-lt64 c = octal_two c.if-number-lt8.false c.if-number-lt64.true c.put_digits.ensures

pub returns : goal.returns
returns c = octal_three c.if-number-lt64.false c.put_digits-next.ensures c.put_digit-2.ensures
