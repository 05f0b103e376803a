-- Rests on `BinaryReadingAnswers`: each answer of the stage gives one of the request; the position is in the payloads, so what stands there can be read.
use mathlib.Core.Path.{refl}
use native.Mathlib.Omega.{arith}
use Rattle.answers.specs.Refusals.{code_of}
use Rattle.asking.proofs.Verdicts.{carried}
use Rattle.binary.proofs.BinaryReadingAnswers.{
  binary_unasked,
  binary_asked,
  binary_counted,
  binary_beyond,
  binary_located,
  binary_ready,
  binary_passed_in,
  binary_fits,
  binary_done,
}
use Rattle.binary.proofs.binary_read.binary_read_opened.Goals as goal

pub returns-in_err-found : goal.returns-in_err-found
returns-in_err-found c = let all = binary_unasked c.args.img.now c.args.key c.args.caller c.args.mode c.args.position c.args.coming c.args.sum c.args.buffer.now
    c.is_given_wrong.ensures _ c.in_err-found.ensures refl refl refl in
    let err = carried c.from_residual.ensures.1 in
    record { code_value = rw err all.0; sum_value = rw err all.1.0; buffer_after = all.1.1 }

pub bytes_in-requires : goal.bytes_in-requires
bytes_in-requires c = let file =
    binary_asked c.args.img.now c.args.key c.args.caller c.args.mode c.args.position c.args.coming c.args.sum c.args.buffer.now c.is_given_wrong.ensures _
    c.in_ok-found.ensures _ _ _ refl in
    binary_counted file

pub returns-then-bytes_in-position : goal.returns-then-bytes_in-position
unfolding code_of
returns-then-bytes_in-position c = let file =
    binary_asked c.args.img.now c.args.key c.args.caller c.args.mode c.args.position c.args.coming c.args.sum c.args.buffer.now c.is_given_wrong.ensures _
    c.in_ok-found.ensures _ _ _ refl in
    let all = binary_beyond file _ c.bytes_in.ensures c.if-bytes_in-position.true refl refl in
    record { code_value = all.0; sum_value = all.1.0; buffer_after = all.1.1 }

pub invariant_of-locate : goal.invariant_of-locate
invariant_of-locate c = let file =
    binary_asked c.args.img.now c.args.key c.args.caller c.args.mode c.args.position c.args.coming c.args.sum c.args.buffer.now c.is_given_wrong.ensures _
    c.in_ok-found.ensures _ _ _ refl in
    let all = binary_located file _ c.bytes_in.ensures c.if-bytes_in-position.false in
    record { sized = all.0 }

pub locate-tail-requires : goal.locate-tail-requires
locate-tail-requires c = let file =
    binary_asked c.args.img.now c.args.key c.args.caller c.args.mode c.args.position c.args.coming c.args.sum c.args.buffer.now c.is_given_wrong.ensures _
    c.in_ok-found.ensures _ _ _ refl in
    let all = binary_located file _ c.bytes_in.ensures c.if-bytes_in-position.false in
    record { by_index = all.1.0; kind_value = all.1.1 }

pub read_part-part-requires : goal.read_part-part-requires
read_part-part-requires c = let file =
    binary_asked c.args.img.now c.args.key c.args.caller c.args.mode c.args.position c.args.coming c.args.sum c.args.buffer.now
    c.is_given_wrong.ensures _
    c.in_ok-found.ensures _ _ _ refl in
    record {
      buffer_nonzero = binary_ready file _ c.bytes_in.ensures c.if-bytes_in-position.false _ c.locate-tail.ensures.bytes;
      coming_bound = binary_passed_in file _ c.bytes_in.ensures c.if-bytes_in-position.false _ c.locate-tail.ensures.bytes;
    }

pub overflow_add-result : goal.overflow_add-result
overflow_add-result c = let file =
    binary_asked c.args.img.now c.args.key c.args.caller c.args.mode c.args.position c.args.coming c.args.sum c.args.buffer.now c.is_given_wrong.ensures _
    c.in_ok-found.ensures _ _ _ refl in
    omega (
      arith,
      binary_fits file _ c.bytes_in.ensures c.if-bytes_in-position.false _ c.locate-tail.ensures.bytes
          (rw c.from.ensures at c.read_part-part.ensures),
    )

pub returns : goal.returns
returns c = let file =
    binary_asked c.args.img.now c.args.key c.args.caller c.args.mode c.args.position c.args.coming c.args.sum c.args.buffer.now c.is_given_wrong.ensures _
    c.in_ok-found.ensures _ _ _ refl in
    let all = binary_done file _ c.bytes_in.ensures c.if-bytes_in-position.false _ c.locate-tail.ensures.bytes (rw c.from.ensures at c.read_part-part.ensures) in
    record { code_value = all.0; sum_value = all.1.0; buffer_after = all.1.1 }
