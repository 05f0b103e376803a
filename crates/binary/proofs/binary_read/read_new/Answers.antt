-- Rests on `LineReadOn`: the header ends early, is wrong, or tells of the data behind it.
use mathlib.Core.Path.{ap, ◌∙◌}
use native.Mathlib.Omega.{arith}
use Rattle.std.specs.Prelude.{Err}
use Rattle.binary.proofs.LineReadOn.{cut_within, new_cut, new_wrong, new_ready, new_read, new_fits}
use Rattle.binary.proofs.binary_read.read_new.Goals as goal

pub read_data-part-requires : goal.read_data-part-requires
read_data-part-requires c = let ready = new_ready c.skip_nuls-begin.ensures.bytes c.read_header.ensures.bytes c.in-Ok.is in
    (c.requires.0, ready.0, ready.1)

pub overflow_add-result : goal.overflow_add-result
overflow_add-result c = omega (arith, cut_within c.skip_nuls-begin.ensures.bytes c.read_header.ensures.bytes (c.in-Err-Cut.is ∙ ap Err c.in-Err-Cut.field-0-is), c.requires.1)

pub overflow_add-result-in-Ok-2 : goal.overflow_add-result-in-Ok-2
overflow_add-result-in-Ok-2 c = let fits = new_fits c.skip_nuls-begin.ensures.bytes
    c.read_header.ensures.bytes c.in-Ok.is _ _
    c.read_data-part.ensures in
    omega (arith, fits, c.requires.1)

pub overflow_add-result-in-Ok : goal.overflow_add-result-in-Ok
overflow_add-result-in-Ok c = let fits = new_fits c.skip_nuls-begin.ensures.bytes
    c.read_header.ensures.bytes c.in-Ok.is _ _
    c.read_data-part.ensures in
    omega (arith, fits, c.requires.1)

pub returns-in-Err-Cut : goal.returns-in-Err-Cut
returns-in-Err-Cut c = rw c.in-Err-Cut.field-0-is
    (new_cut c.skip_nuls-begin.ensures.bytes c.read_header.ensures.bytes _ _ _ (c.in-Err-Cut.is ∙ ap Err c.in-Err-Cut.field-0-is))

pub returns-in-Err-Wrong : goal.returns-in-Err-Wrong
returns-in-Err-Wrong c = new_wrong c.skip_nuls-begin.ensures.bytes c.read_header.ensures.bytes _ _ _ (c.in-Err-Wrong.is ∙ ap Err c.in-Err-Wrong.field-0-is)

pub returns-in-Ok : goal.returns-in-Ok
returns-in-Ok c = new_read c.skip_nuls-begin.ensures.bytes
    c.read_header.ensures.bytes c.in-Ok.is _ _
    c.read_data-part.ensures
