-- Rests on `HeadingRead`: a first word that is there is judged, and behind a right one the count word.
use mathlib.Core.Path.{refl, ap, ◌∙◌}
use native.Mathlib.Omega.{arith}
use Rattle.std.specs.Prelude.{Err}
use Rattle.std.proofs.lemmas.Result.{err_from_is_err_and}
use Rattle.binary.proofs.HeadingRead.{first_low, first_high, header_cut, header_few, header_bad, header_told, heading_few, heading_small}
use Rattle.binary.proofs.heading.read_header.Goals as goal

pub returns-in_err-word-clause-bytes : goal.returns-in_err-word-clause-bytes
returns-in_err-word-clause-bytes c = let p = err_from_is_err_and c.from_residual.result c.from_residual.ensures.1 in rw (p.1, p.2) (header_cut c.in_err-word.ensures.bytes refl)

pub returns-then-word-ne1-clause-bytes : goal.returns-then-word-ne1-clause-bytes
returns-then-word-ne1-clause-bytes c = first_low c.in_ok-word.ensures.bytes refl c.if-word-ne1.true

pub returns-then-word-ne0-clause-bytes : goal.returns-then-word-ne0-clause-bytes
returns-then-word-ne0-clause-bytes c = first_high c.in_ok-word.ensures.bytes refl c.if-word-ne1.false c.if-word-ne0.true

pub overflow_add-result : goal.overflow_add-result
overflow_add-result c = omega (arith, heading_few c.read_count.ensures.bytes (c.in-Err-Cut.is ∙ ap Err c.in-Err-Cut.field-0-is))

pub overflow_add-result-in-Ok : goal.overflow_add-result-in-Ok
overflow_add-result-in-Ok c = omega (arith, heading_small c.read_count.ensures.bytes c.in-Ok.is)

pub returns-in-Err-Cut-clause-bytes : goal.returns-in-Err-Cut-clause-bytes
returns-in-Err-Cut-clause-bytes c = header_few c.in_ok-word.ensures.bytes refl c.if-word-ne1.false c.if-word-ne0.false c.read_count.ensures.bytes
    (c.in-Err-Cut.is ∙ ap Err c.in-Err-Cut.field-0-is)

pub returns-in-Err-Wrong-clause-bytes : goal.returns-in-Err-Wrong-clause-bytes
returns-in-Err-Wrong-clause-bytes c = header_bad c.in_ok-word.ensures.bytes refl c.if-word-ne1.false c.if-word-ne0.false c.read_count.ensures.bytes
    (c.in-Err-Wrong.is ∙ ap Err c.in-Err-Wrong.field-0-is)

pub returns-in-Ok-clause-bytes : goal.returns-in-Ok-clause-bytes
returns-in-Ok-clause-bytes c = header_told c.in_ok-word.ensures.bytes refl c.if-word-ne1.false c.if-word-ne0.false c.read_count.ensures.bytes c.in-Ok.is
