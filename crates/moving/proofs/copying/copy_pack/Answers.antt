-- Rests on `PackCopied`: two runs of bytes, then the new form and n.
use native.Mathlib.Omega.{arith}
use Rattle.moving.proofs.PackCopied.{bodies_counted, contents_inside, bodies_inside, header_inside, blocks_word, pack_copied, form_word}
use Rattle.moving.proofs.copying.copy_pack.Goals as goal

pub copy_run-requires : goal.copy_run-requires
copy_run-requires c = contents_inside c.requires.0 c.requires.1 c.bytes-bytes.ensures c.requires.2

pub overflow_mul-to : goal.overflow_mul-to
overflow_mul-to c = omega (arith, (bodies_counted c.requires.0 c.requires.1 c.bytes-bytes.ensures).1)

pub copy_run-requires-2 : goal.copy_run-requires-2
copy_run-requires-2 c = bodies_inside c.requires.0 c.requires.1 c.bytes-bytes.ensures c.requires.2 c.copy_run.ensures.long

pub set_word-requires : goal.set_word-requires
set_word-requires c = let inside = header_inside c.requires.0 c.requires.1 c.bytes-bytes.ensures c.requires.2 c.copy_run.ensures c.copy_run-2.ensures in
    (omega (arith, inside), form_word c.args.way c.form_to.ensures)

pub set_word-requires-2 : goal.set_word-requires-2
set_word-requires-2 c = let inside = header_inside c.requires.0 c.requires.1 c.bytes-bytes.ensures c.requires.2 c.copy_run.ensures c.copy_run-2.ensures in
    (omega (arith, inside, c.set_word.auto.bytes), blocks_word c.requires.0 c.requires.1 c.bytes-bytes.ensures c.requires.2 c.copy_run.ensures c.copy_run-2.ensures)

pub returns : goal.returns
returns c = pack_copied c.requires.0 c.requires.1 c.bytes-bytes.ensures c.requires.2 c.copy_run.ensures c.copy_run-2.ensures c.form_to.ensures c.set_word.ensures c.set_word-2.ensures
