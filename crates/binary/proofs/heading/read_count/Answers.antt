-- Rests on `HeadingRead`: the word is cut, out of range, or tells how many data bytes there are.
use mathlib.Core.Path.{refl}
use native.Mathlib.Omega.{arith}
use Rattle.std.proofs.lemmas.Result.{err_from_is_err_and}
use Rattle.binary.proofs.HeadingRead.{two_read, count_low, count_high, count_cut, count_told}
use Rattle.binary.proofs.heading.read_count.Goals as goal

pub returns-in_err-word-clause-bytes : goal.returns-in_err-word-clause-bytes
returns-in_err-word-clause-bytes c = let p = err_from_is_err_and c.from_residual.result c.from_residual.ensures.1 in rw (p.1, p.2) (count_cut c.in_err-word.ensures.bytes refl)

pub overflow_mul-count : goal.overflow_mul-count
overflow_mul-count c = omega (arith, (two_read c.in_ok-word.ensures.bytes refl).1)

pub overflow_add-count : goal.overflow_add-count
overflow_add-count c = omega (arith, (two_read c.in_ok-word.ensures.bytes refl).0, (two_read c.in_ok-word.ensures.bytes refl).1)

pub returns-then-count-lt4-clause-bytes : goal.returns-then-count-lt4-clause-bytes
returns-then-count-lt4-clause-bytes c = count_low c.in_ok-word.ensures.bytes refl refl c.if-count-lt4.true

pub returns-then-count-gt516-clause-bytes : goal.returns-then-count-gt516-clause-bytes
returns-then-count-gt516-clause-bytes c = count_high c.in_ok-word.ensures.bytes refl refl c.if-count-gt516.true

pub returns-clause-bytes : goal.returns-clause-bytes
returns-clause-bytes c = count_told c.in_ok-word.ensures.bytes refl refl c.if-count-lt4.false c.if-count-gt516.false refl refl
