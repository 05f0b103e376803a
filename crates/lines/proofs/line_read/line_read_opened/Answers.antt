-- Rests on `LineReadingStage`: each answer of the stage gives one of the request; the position is in the payloads, so what stands there can be read.
use mathlib.Core.Path.{refl}
use native.Mathlib.Omega.{arith}
use Rattle.answers.specs.Refusals.{code_of}
use Rattle.asking.proofs.Verdicts.{carried}
use Rattle.lines.proofs.LineReadingStage.{line_unasked, line_read_asked, line_counted, line_beyond, line_located, line_ready, line_fits, line_done}
use Rattle.lines.proofs.line_read.line_read_opened.Goals as goal

pub returns-in_err-found : goal.returns-in_err-found
returns-in_err-found c = let all = line_unasked _ _ _ _ _ _ _ c.in_err-found.ensures _ refl in
    let err = carried c.from_residual.ensures.1 in
    record { code_value = rw err all.0; position_value = rw err all.1.0; buffer_after = all.1.1 }

pub bytes_in-requires : goal.bytes_in-requires
bytes_in-requires c = line_counted (line_read_asked _ _ c.args.caller c.args.mode c.args.position c.args.buffer.now _ c.in_ok-found.ensures _ _ _ refl)

pub returns-then-bytes_in-position : goal.returns-then-bytes_in-position
unfolding code_of
returns-then-bytes_in-position c = let file = line_read_asked _ _ c.args.caller c.args.mode c.args.position c.args.buffer.now _ c.in_ok-found.ensures _ _ _ refl in
    let all = line_beyond file c.bytes_in.ensures c.if-bytes_in-position.true in
    record { code_value = all.0; position_value = all.1.0; buffer_after = all.1.1 }

pub invariant_of-locate : goal.invariant_of-locate
invariant_of-locate c = let file = line_read_asked _ _ c.args.caller c.args.mode c.args.position c.args.buffer.now _ c.in_ok-found.ensures _ _ _ refl in
    let all = line_located file c.bytes_in.ensures c.if-bytes_in-position.false in
    record { sized = all.0 }

pub locate-tail-requires : goal.locate-tail-requires
locate-tail-requires c = let file = line_read_asked _ _ c.args.caller c.args.mode c.args.position c.args.buffer.now _ c.in_ok-found.ensures _ _ _ refl in
    let all = line_located file c.bytes_in.ensures c.if-bytes_in-position.false in
    record { by_index = all.1.0; kind_value = all.1.1 }

pub read_payloads-line-requires : goal.read_payloads-line-requires
read_payloads-line-requires c = let file = line_read_asked _ _ c.args.caller c.args.mode c.args.position c.args.buffer.now _ c.in_ok-found.ensures _ _ _ refl in
    line_ready file c.bytes_in.ensures c.if-bytes_in-position.false _ c.locate-tail.ensures.bytes

pub overflow_add-result : goal.overflow_add-result
overflow_add-result c = let file = line_read_asked _ _ c.args.caller c.args.mode c.args.position c.args.buffer.now _ c.in_ok-found.ensures _ _ _ refl in
    omega (arith, line_fits file c.bytes_in.ensures c.if-bytes_in-position.false _ c.locate-tail.ensures.bytes _ _ c.from.ensures c.read_payloads-line.ensures)

pub returns : goal.returns
returns c = let file = line_read_asked _ _ c.args.caller c.args.mode c.args.position c.args.buffer.now _ c.in_ok-found.ensures _ _ _ refl in
    let all = line_done file c.bytes_in.ensures c.if-bytes_in-position.false _ c.locate-tail.ensures.bytes _ _ c.from.ensures c.read_payloads-line.ensures in
    record { code_value = all.0; position_value = all.1.0; buffer_after = all.1.1 }
